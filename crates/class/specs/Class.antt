-- The whole file. Document 01, "File and lent tables" and "Members and lookups". Assumes nothing.
use Rattle.std.specs.Prelude.{ℕ, ◌+◌, List, Bool, true, not, length, eqb}
use Rattle.std.specs.Int.Bits.{bit_and}
use Rattle.reads.specs.Answer.{Answer, Check, accept, ◌>>=◌, require}
use Rattle.reads.specs.Bytes.{u2}
use Rattle.pool.specs.Pool.{Pool, Whole as WholePool}
use Rattle.checks.specs.Checks.{pool}
use Rattle.bootstrap.specs.Indices.{bootstrap_indices}
use Rattle.reads.specs.Records.{Many, column}
use Rattle.attributes.specs.Attributes.{framed}
use Rattle.attributes.specs.declared.Attribute.{Attribute}
use Rattle.class_head.specs.Header.{head_at, interfaces_at}
use Rattle.class_head.specs.declared.ClassHead.{ClassHead}
use Rattle.class.specs.Members.{Whole, a_field, a_method, sort_at}

-- how many cells, interfaces, member records and attribute records are lent
pub record Rooms : Type 0 where
  pub cells : ℕ
  pub interfaces : ℕ
  pub members : ℕ
  pub attributes : ℕ

-- the flags as the file has them mark an interface
unfoldable pub marked : ℕ → Bool
marked flags = not (eqb (bit_and flags 0x0200) 0)

-- flags outside the mask are dropped
unfoldable pub class_flags : ℕ → ℕ
class_flags flags = bit_and flags 0xF631

-- what stands before the members: the pool, the header and the interfaces; `next` is the byte after them
pub record Front : Type 0 where
  pub pool : WholePool
  pub head : ClassHead
  pub interfaces : List ℕ
  pub next : ℕ

unfoldable pub front_at : List ℕ → ℕ → ℕ → Answer Front
front_at s cells interfaces = do
  w ← pool s cells
  h ← head_at w.pool w.next
  is ← interfaces_at w.pool interfaces (w.next + 6)
  accept (record { pool = w; head = h; interfaces = is.list; next = is.end })

-- no bytes are left over at byte `end`; then every Dynamic and InvokeDynamic names a method of the one BootstrapMethods among attributes of these titles and bodies
unfoldable pub end_at : Pool → ℕ → List ℕ → List ℕ → Check
end_at p end titles bodies = do
  _ ← require (eqb end (length p.file)) 18 end
  bootstrap_indices p titles bodies

-- the number of the class's own attributes at byte `at`, and these, which become records `used`, `used` + 1, .., up to the end of the file
unfoldable pub own_at : Pool → ℕ → ℕ → ℕ → Answer (Many Attribute ℕ)
own_at p limit used at = do
  k ← u2 p.file at
  own ← framed true p limit k used (at + 2)
  _ ← end_at p own.end (column (λ a. a.name) own) (column (λ a. a.start) own)
  accept own

-- fields, methods, and the class's own attributes; `used` is the number of attribute records of members
pub record Tables : Type 0 where
  pub fields : List Whole
  pub methods : List Whole
  pub used : ℕ
  pub own : List Attribute

unfoldable pub tables_at : Bool → Pool → ℕ → ℕ → ℕ → Answer Tables
tables_at interface p room limit at = do
  fs ← sort_at a_field p room limit 0 at 0
  ms ← sort_at (a_method interface) p room limit (length fs.list) fs.end.at fs.end.used
  own ← own_at p limit ms.end.used ms.end.at
  accept (record { fields = fs.list; methods = ms.list; used = ms.end.used; own = own.list })

pub record Class : Type 0 where
  pub front : Front
  pub tables : Tables

unfoldable pub class_file : List ℕ → Rooms → Answer Class
class_file s rooms = do
  f ← front_at s rooms.cells rooms.interfaces
  t ← tables_at (marked f.head.flags) f.pool.pool rooms.members rooms.attributes f.next
  accept (record { front = f; tables = t })
