-- The code's own notion: the columns of members, as the numbers that records are made of. Assumes nothing.
use Rattle.class.specs.Columns.{Columns, Flags, Names, Types, Firsts, Counts}
use Rattle.records.specs.Records.{Numbers}

abbrev pub numbers_of : Columns → Numbers
numbers_of c = record { flags = c.member Flags; names = c.member Names; types = c.member Types; firsts = c.member Firsts; counts = c.member Counts }
