-- A statement: what the tables lent to a call that reads a class hold afterwards, and those of one that reads its records too. Assumes nothing.
use Rattle.std.specs.Prelude.{ℕ, List, replicate}
use Rattle.reads.specs.Answer.{Answer, mapped}
use Rattle.reads.specs.Tables.{after}
use Rattle.class.specs.Columns.{Columns, tabled, zeros}
use Rattle.class.specs.Class.{Class}
use Rattle.records.specs.declared.Member.{Member}
use Rattle.records.specs.declared.Attribute.{Attribute}
use Rattle.records.specs.Records.{none, no_attribute}
use Rattle.class_records.specs.ClassRecords.{records_of, attribute_records_of}

-- the pool's table, the interfaces and the columns
pub record Lent : Type 0 where
  pub cells : List ℕ
  pub interfaces : List ℕ
  pub columns : Columns

pub record LentRecords : Type 0 where
  pub lent : Lent
  pub records : List Member
  pub attributes : List Attribute

-- tables of so many cells, and columns as long as those of c, after a call that answered so; and zero
module _ (room len : ℕ) (c : Columns) where
  abbrev pub file_into : Answer Class → Lent
  file_into x = record {
    cells = after 0 (λ q. q.front.pool.pool.cells) room x;
    interfaces = after 0 (λ q. q.front.interfaces) len x;
    columns = tabled c (mapped (λ q. q.tables) x);
  }

  abbrev pub no_file : Lent
  no_file = record { cells = replicate room 0; interfaces = replicate len 0; columns = zeros c }

  -- ... and n and k records
  abbrev pub records_into : ℕ → ℕ → Answer Class → LentRecords
  records_into n k x = record { lent = file_into x; records = after none records_of n x; attributes = after no_attribute attribute_records_of k x }

  abbrev pub no_records : ℕ → ℕ → LentRecords
  no_records n k = record { lent = no_file; records = replicate n none; attributes = replicate k no_attribute }
