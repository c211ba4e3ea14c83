-- The code's own notion: what the code keeps of the interfaces. Assumes nothing.
use Rattle.std.specs.Prelude.{ℕ, length}
use Rattle.reads.specs.Records.{Many}
use Rattle.class_head.specs.declared.Listed.{Listed}

-- what is answered of a list: how long it is, and the byte after it
abbrev pub listed_of : Many ℕ ℕ → Listed
listed_of m = record { count = length m.list; next = m.end }
