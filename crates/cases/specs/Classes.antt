-- Worked cases: whole class files, what the class call answers to each and leaves in every lent table, and two wrong answers. Assumes nothing.
use Rattle.std.specs.Prelude.{ℕ, ◌+◌, List, [], ◌∷◌, ◌++◌, length, take, drop, replicate}
use Rattle.reads.specs.Answer.{Answer, accept, refuse, mapped}
use Rattle.reads.specs.Tables.{after}
use Rattle.class.specs.Class.{Rooms, Class, class_file}
use Rattle.class.specs.Columns.{Columns, Flags, Names, Types, Firsts, Counts, Titles, Bodies, Lengths, lent, tabled}
use Rattle.class.specs.Readings.{class_of}
use Rattle.class.specs.declared.Class.{Class as ClassValue}
use Rattle.cases.specs.Wrongs.{Row, row, answer}

-- ---- what is left by a call

pub record Left : Type 0 where
  pub said : Answer ClassValue
  pub cells : List ℕ
  pub interfaces : List ℕ
  pub columns : Columns

-- P, minor, major, masked flags, this, super, and how many interfaces, fields, methods, attributes of members, attributes of the class
abbrev numbers : ClassValue → List ℕ
numbers c = c.slots ∷ c.minor ∷ c.major ∷ c.flags ∷ c.this ∷ c.parent ∷ c.interfaces ∷ c.fields ∷ c.methods ∷ c.used ∷ c.own ∷ []

abbrev pub all : Left → List ℕ
all l =
    answer numbers l.said ++ l.cells ++ l.interfaces
    ++ l.columns.member Flags ++ l.columns.member Names ++ l.columns.member Types ++ l.columns.member Firsts ++ l.columns.member Counts
    ++ l.columns.attribute Titles ++ l.columns.attribute Bodies ++ l.columns.attribute Lengths

abbrev pub room : ℕ → ℕ → ℕ → ℕ → Rooms
room cells interfaces members attributes = record { cells = cells; interfaces = interfaces; members = members; attributes = attributes }

-- columns that hold x in every cell
abbrev filled_with : ℕ → Rooms → Columns
filled_with x r =
    let m = replicate r.members x in
    let a = replicate r.attributes x in
    lent m m m m m a a a

-- as the contract of `read_class` says it
abbrev leaves : Rooms → Answer Class → Left
leaves r x = record {
  said = mapped class_of x;
  cells = after 0 (λ c. c.front.pool.pool.cells) r.cells x;
  interfaces = after 0 (λ c. c.front.interfaces) r.interfaces x;
  columns = tabled (filled_with 9 r) (mapped (λ c. c.tables) x);
}

abbrev pub call : Rooms → List ℕ → Left
call r s = leaves r (class_file s r)

-- a refusal: all lent tables are zero
abbrev pub no : Rooms → ℕ → ℕ → Left
no r nr place = record { said = refuse nr place; cells = replicate r.cells 0; interfaces = replicate r.interfaces 0; columns = filled_with 0 r }

-- these bytes from byte `at` on, in place of what stood there
abbrev pub put : ℕ → List ℕ → List ℕ → List ℕ
put at bs s = take at s ++ bs ++ drop (at + length bs) s

-- a file that the call refuses, and two other answers
abbrev refused : Rooms → List ℕ → ℕ → ℕ → Left → Left → Row
refused r s nr place = row all (call r s) (no r nr place)

-- ---- V: a class with members

abbrev pub file_v : List ℕ
file_v =
    0xCA ∷ 0xFE ∷ 0xBA ∷ 0xBE ∷ 0 ∷ 3 ∷ 0 ∷ 52 ∷ 0 ∷ 14
    ∷ 1 ∷ 0 ∷ 1 ∷ 0x41  -- 1, at byte 10: A
    ∷ 7 ∷ 0 ∷ 1  -- 2, at 14: Class A
    ∷ 1 ∷ 0 ∷ 1 ∷ 0x49  -- 3, at 17: I
    ∷ 7 ∷ 0 ∷ 3  -- 4, at 21: Class I
    ∷ 1 ∷ 0 ∷ 2 ∷ 0x5B ∷ 0x49  -- 5, at 24: [I
    ∷ 7 ∷ 0 ∷ 5  -- 6, at 29: Class [I
    ∷ 1 ∷ 0 ∷ 3 ∷ 0x28 ∷ 0x29 ∷ 0x56  -- 7, at 32: ()V
    ∷ 1 ∷ 0 ∷ 4 ∷ 0x28 ∷ 0x49 ∷ 0x29 ∷ 0x56  -- 8, at 38: (I)V
    ∷ 1 ∷ 0 ∷ 3 ∷ 0x28 ∷ 0x29 ∷ 0x49  -- 9, at 45: ()I
    ∷ 1 ∷ 0 ∷ 6 ∷ 0x3C ∷ 0x69 ∷ 0x6E ∷ 0x69 ∷ 0x74 ∷ 0x3E  -- 10, at 51: <init>
    ∷ 1 ∷ 0 ∷ 8 ∷ 0x3C ∷ 0x63 ∷ 0x6C ∷ 0x69 ∷ 0x6E ∷ 0x69 ∷ 0x74 ∷ 0x3E  -- 11, at 60: <clinit>
    ∷ 1 ∷ 0 ∷ 1 ∷ 0x49  -- 12, at 71: I once more
    ∷ 1 ∷ 0 ∷ 1 ∷ 0x43  -- 13, at 75: C
    ∷ 0xFD ∷ 0xFF ∷ 0 ∷ 2 ∷ 0 ∷ 4 ∷ 0 ∷ 2 ∷ 0 ∷ 4 ∷ 0 ∷ 2  -- flags at 79, this, super, at 85 two interfaces: 4 at 87, 2 at 89
    ∷ 0 ∷ 3 ∷ 0xFF ∷ 0xFF ∷ 0 ∷ 3 ∷ 0 ∷ 3 ∷ 0 ∷ 1  -- fields at 91; the first at 93: I of type I
    ∷ 0 ∷ 13 ∷ 0 ∷ 0 ∷ 0 ∷ 2 ∷ 0xAA ∷ 0xBB  -- its attribute at 101, the body at 107
    ∷ 0 ∷ 2 ∷ 0 ∷ 10 ∷ 0 ∷ 3 ∷ 0 ∷ 0  -- the second at 109: <init> of type I, without attributes
    ∷ 0x10 ∷ 0 ∷ 0 ∷ 12 ∷ 0 ∷ 5 ∷ 0 ∷ 1  -- the third at 117: I of type [I
    ∷ 0 ∷ 13 ∷ 0 ∷ 0 ∷ 0 ∷ 0  -- its attribute at 125, the body empty at 131
    ∷ 0 ∷ 2 ∷ 0xFF ∷ 0xFF ∷ 0 ∷ 10 ∷ 0 ∷ 8 ∷ 0 ∷ 0  -- methods at 131; the first at 133: <init>(I)V, without attributes
    ∷ 0 ∷ 8 ∷ 0 ∷ 11 ∷ 0 ∷ 7 ∷ 0 ∷ 1  -- the second at 141: <clinit>()V
    ∷ 0 ∷ 13 ∷ 0 ∷ 0 ∷ 0 ∷ 1 ∷ 0xCC  -- its attribute at 149, the body at 155
    ∷ 0 ∷ 1 ∷ 0 ∷ 13 ∷ 0 ∷ 0 ∷ 0 ∷ 1 ∷ 0xDD  -- attributes at 156; the one at 158, its body at 164
    ∷ []

abbrev room_v : Rooms
room_v = room 14 2 5 4

abbrev class_v : ℕ → ℕ → ℕ → ClassValue
class_v major flags parent = record { slots = 14; minor = 3; major = major; flags = flags; this = 2; parent = parent; interfaces = 2; fields = 3; methods = 2; used = 3; own = 1 }

-- with these flags, descriptors and first records of the five members
abbrev left_v : ClassValue → List ℕ → List ℕ → List ℕ → Left
left_v c flags types firsts = record {
  said = accept c;
  cells = 0 ∷ 10 ∷ 14 ∷ 17 ∷ 21 ∷ 24 ∷ 29 ∷ 32 ∷ 38 ∷ 45 ∷ 51 ∷ 60 ∷ 71 ∷ 75 ∷ [];
  interfaces = 4 ∷ 2 ∷ [];
  columns = lent flags (3 ∷ 10 ∷ 12 ∷ 10 ∷ 11 ∷ []) types firsts (1 ∷ 0 ∷ 1 ∷ 0 ∷ 1 ∷ []) (13 ∷ 13 ∷ 13 ∷ 13 ∷ []) (107 ∷ 131 ∷ 155 ∷ 164 ∷ []) (2 ∷ 0 ∷ 1 ∷ 1 ∷ []);
}

abbrev masked_v : List ℕ
masked_v = 0x50DF ∷ 2 ∷ 0x1000 ∷ 0x1DFF ∷ 8 ∷ []

abbrev types_v : List ℕ
types_v = 3 ∷ 3 ∷ 5 ∷ 8 ∷ 7 ∷ []

abbrev firsts_v : List ℕ
firsts_v = 0 ∷ 1 ∷ 1 ∷ 2 ∷ 2 ∷ []

-- V as it stands
abbrev yes_v : Left
yes_v = left_v (class_v 52 0xF431 4) masked_v types_v firsts_v

-- V with a cell, an interface, a member and an attribute more than are used
abbrev wide_v : List ℕ → Left
wide_v firsts = record {
  said = accept (class_v 52 0xF431 4);
  cells = 0 ∷ 10 ∷ 14 ∷ 17 ∷ 21 ∷ 24 ∷ 29 ∷ 32 ∷ 38 ∷ 45 ∷ 51 ∷ 60 ∷ 71 ∷ 75 ∷ 0 ∷ [];
  interfaces = 4 ∷ 2 ∷ 0 ∷ [];
  columns = lent (0x50DF ∷ 2 ∷ 0x1000 ∷ 0x1DFF ∷ 8 ∷ 0 ∷ []) (3 ∷ 10 ∷ 12 ∷ 10 ∷ 11 ∷ 0 ∷ []) (3 ∷ 3 ∷ 5 ∷ 8 ∷ 7 ∷ 0 ∷ []) firsts (1 ∷ 0 ∷ 1 ∷ 0 ∷ 1 ∷ 0 ∷ []) (13 ∷ 13 ∷ 13 ∷ 13 ∷ 0 ∷ []) (107 ∷ 131 ∷ 155 ∷ 164 ∷ 0 ∷ []) (2 ∷ 0 ∷ 1 ∷ 1 ∷ 0 ∷ []);
}

-- V as it stands, and with a byte or two changed
abbrev members : List Row
members =
    row all (call room_v file_v) yes_v (left_v (class_v 52 0xFDFF 4) masked_v types_v firsts_v) (left_v (class_v 52 0xF431 4) (0xFFFF ∷ 2 ∷ 0x1000 ∷ 0xFFFF ∷ 8 ∷ []) types_v firsts_v)  -- flags not masked
    ∷ row all (call (room 15 3 6 5) file_v) (wide_v (0 ∷ 1 ∷ 1 ∷ 2 ∷ 2 ∷ 0 ∷ [])) (wide_v (0 ∷ 0 ∷ 1 ∷ 0 ∷ 2 ∷ 0 ∷ [])) (wide_v (0 ∷ 1 ∷ 1 ∷ 2 ∷ 2 ∷ 9 ∷ []))  -- a member without attributes names no record; a cell that is kept
    ∷ row all (call room_v (put 84 (0 ∷ []) file_v)) (left_v (class_v 52 0xF431 0) masked_v types_v firsts_v) (no room_v 8 83) yes_v  -- super may be 0
    ∷ refused room_v (put 82 (0 ∷ []) file_v) 8 81 (no room_v 7 81) yes_v  -- this may not
    ∷ refused room_v (put 82 (6 ∷ []) file_v) 10 81 (no room_v 11 81) yes_v  -- an array as this
    ∷ refused room_v (put 84 (6 ∷ []) file_v) 10 83 (no room_v 10 81) yes_v  -- as super
    ∷ refused room_v (put 90 (6 ∷ []) file_v) 10 89 (no room_v 10 85) yes_v  -- as an interface
    ∷ refused room_v (put 79 (0xFF ∷ []) file_v) 10 135 (no room_v 15 133) yes_v  -- <init> in an interface
    ∷ row all (call room_v (put 7 (50 ∷ []) (put 146 (8 ∷ []) file_v))) (left_v (class_v 50 0xF431 4) masked_v (3 ∷ 3 ∷ 5 ∷ 8 ∷ 8 ∷ []) firsts_v) (no room_v 15 141) (no room_v 11 145)  -- <clinit>(I)V at 50
    ∷ refused room_v (put 7 (51 ∷ []) (put 146 (8 ∷ []) file_v)) 15 141 (no room_v 11 145) (left_v (class_v 51 0xF431 4) masked_v (3 ∷ 3 ∷ 5 ∷ 8 ∷ 8 ∷ []) firsts_v)  -- at 51
    ∷ refused room_v (put 7 (50 ∷ []) (put 146 (9 ∷ []) file_v)) 15 141 (no room_v 11 145) (left_v (class_v 50 0xF431 4) masked_v (3 ∷ 3 ∷ 5 ∷ 8 ∷ 9 ∷ []) firsts_v)  -- <clinit>()I at 50
    ∷ refused room_v (put 138 (9 ∷ []) file_v) 15 133 (no room_v 11 137) (left_v (class_v 52 0xF431 4) masked_v (3 ∷ 3 ∷ 5 ∷ 9 ∷ 7 ∷ []) firsts_v)  -- <init>()I
    ∷ refused room_v (put 122 (12 ∷ []) file_v) 14 117 (no room_v 14 93) (left_v (class_v 52 0xF431 4) masked_v (3 ∷ 3 ∷ 12 ∷ 8 ∷ 7 ∷ []) firsts_v)  -- the third field is the first in bytes, not in slots
    ∷ refused (room 14 2 2 1) (put 122 (12 ∷ []) file_v) 14 117 (no (room 14 2 2 1) 13 117) (no (room 14 2 2 1) 14 93)  -- and there is no room for it
    ∷ []

-- V with too little room: 5 for a cell, 13 for what else comes first in the file
abbrev rooms : List Row
rooms =
    refused (room 13 0 0 0) file_v 5 13 (no (room 13 0 0 0) 13 87) (no (room 13 0 0 0) 5 14)  -- cells before all else
    ∷ refused (room 14 0 0 0) file_v 13 87 (no (room 14 0 0 0) 13 93) (no (room 14 0 0 0) 13 85)  -- interfaces before members
    ∷ refused (room 14 1 5 4) file_v 13 89 (no (room 14 1 5 4) 13 87) (no (room 14 1 5 4) 13 1)  -- the second interface
    ∷ refused (room 14 1 5 4) (put 90 (6 ∷ []) file_v) 10 89 (no (room 14 1 5 4) 13 89) (no (room 14 1 5 4) 13 87)  -- an array there
    ∷ refused (room 14 2 0 0) file_v 13 93 (no (room 14 2 0 0) 13 101) (no (room 14 2 0 0) 13 91)  -- a member before its attributes
    ∷ refused (room 14 2 1 0) file_v 13 101 (no (room 14 2 1 0) 13 109) (no (room 14 2 1 0) 13 93)  -- and these before the next member
    ∷ refused (room 14 2 1 1) file_v 13 109 (no (room 14 2 1 1) 13 125) (no (room 14 2 1 1) 13 117)
    ∷ refused (room 14 2 3 1) file_v 13 125 (no (room 14 2 3 1) 13 133) (no (room 14 2 3 1) 13 117)
    ∷ refused (room 14 2 3 2) file_v 13 133 (no (room 14 2 3 2) 13 149) (no (room 14 2 3 2) 13 131)  -- fields and methods share one table
    ∷ refused (room 14 2 5 3) file_v 13 158 (no (room 14 2 5 3) 13 156) (no (room 14 2 5 3) 13 149)  -- the class's own come last
    ∷ refused (room 14 2 0 0) (take 99 file_v) 13 93 (no (room 14 2 0 0) 2 99) (no (room 14 2 0 0) 2 93)  -- no room, and the file cut before the number of attributes
    ∷ refused (room 14 2 1 0) (take 99 file_v) 2 99 (no (room 14 2 1 0) 13 101) (no (room 14 2 1 0) 2 93)
    ∷ []

-- ---- W and X: handles, and methods of BootstrapMethods

-- slots 1 to 7 of both
abbrev references : List ℕ
references =
    1 ∷ 0 ∷ 1 ∷ 0x41  -- 1, at byte 10: A
    ∷ 7 ∷ 0 ∷ 1  -- 2, at 14: Class A
    ∷ 1 ∷ 0 ∷ 1 ∷ 0x6D  -- 3, at 17: m
    ∷ 1 ∷ 0 ∷ 3 ∷ 0x28 ∷ 0x29 ∷ 0x56  -- 4, at 21: ()V
    ∷ 12 ∷ 0 ∷ 3 ∷ 0 ∷ 4  -- 5, at 27: m()V
    ∷ 10 ∷ 0 ∷ 2 ∷ 0 ∷ 5  -- 6, at 32: MethodRef A.m()V
    ∷ 11 ∷ 0 ∷ 2 ∷ 0 ∷ 5  -- 7, at 37: InterfaceMethodRef A.m()V
    ∷ []

-- an interface A without members; slot 8, at 42, is a handle of this kind on slot m
abbrev pub file_w : ℕ → ℕ → ℕ → List ℕ
file_w major kind m = 0xCA ∷ 0xFE ∷ 0xBA ∷ 0xBE ∷ 0 ∷ 0 ∷ 0 ∷ major ∷ 0 ∷ 9 ∷ references ++ 15 ∷ kind ∷ 0 ∷ m ∷ 6 ∷ 0 ∷ 0 ∷ 2 ∷ 0 ∷ 0 ∷ 0 ∷ 0 ∷ 0 ∷ 0 ∷ 0 ∷ 0 ∷ 0 ∷ 0 ∷ []

abbrev room_w : Rooms
room_w = room 9 0 0 0

abbrev yes_w : ℕ → Left
yes_w major = record {
  said = accept (record { slots = 9; minor = 0; major = major; flags = 0x600; this = 2; parent = 0; interfaces = 0; fields = 0; methods = 0; used = 0; own = 0 });
  cells = 0 ∷ 10 ∷ 14 ∷ 17 ∷ 21 ∷ 27 ∷ 32 ∷ 37 ∷ 42 ∷ [];
  interfaces = [];
  columns = lent [] [] [] [] [] [] [] [];
}

-- of this major, a handle of this kind is one on slot m; or the kind of entry m is not allowed it
abbrev may : ℕ → ℕ → ℕ → Row
may major kind m = row all (call room_w (file_w major kind m)) (yes_w major) (no room_w 8 8) (no room_w 4 43)

abbrev may_not : ℕ → ℕ → ℕ → Row
may_not major kind m = refused room_w (file_w major kind m) 8 8 (yes_w major) (no room_w 4 43)

abbrev handles : List Row
handles =
    may_not 51 6 7
    ∷ may_not 51 7 7
    ∷ may 52 6 7
    ∷ may 52 7 7
    ∷ may 51 6 6
    ∷ may 51 7 6
    ∷ may_not 52 5 7
    ∷ may_not 52 8 7
    ∷ may 51 9 7
    ∷ may_not 52 9 6
    ∷ refused room_w (file_w 50 6 6) 4 42 (no room_w 4 43) (yes_w 50)  -- the tag is unknown at 50
    ∷ refused room_w (file_w 52 10 6) 4 43 (no room_w 4 42) (no room_w 8 8)  -- the kind at every major
    ∷ []

-- an interface A with all flags, a field and a method
abbrev pub file_x : List ℕ
file_x =
    0xCA ∷ 0xFE ∷ 0xBA ∷ 0xBE ∷ 0 ∷ 0 ∷ 0 ∷ 55 ∷ 0 ∷ 23 ∷ references
    ++ 15 ∷ 6 ∷ 0 ∷ 6  -- 8, at 42: a handle on slot 6
    ∷ 15 ∷ 7 ∷ 0 ∷ 7  -- 9, at 46: one on slot 7
    ∷ 16 ∷ 0 ∷ 4  -- 10, at 50: MethodType ()V
    ∷ 8 ∷ 0 ∷ 1  -- 11, at 53: String A
    ∷ 3 ∷ 0 ∷ 0 ∷ 0 ∷ 1  -- 12, at 56: Integer
    ∷ 4 ∷ 0 ∷ 0 ∷ 0 ∷ 1  -- 13, at 61: Float
    ∷ 5 ∷ 0 ∷ 0 ∷ 0 ∷ 0 ∷ 0 ∷ 0 ∷ 0 ∷ 1  -- 14 and 15, at 66: Long
    ∷ 6 ∷ 0 ∷ 0 ∷ 0 ∷ 0 ∷ 0 ∷ 0 ∷ 0 ∷ 1  -- 16 and 17, at 75: Double
    ∷ 1 ∷ 0 ∷ 16 ∷ 0x42 ∷ 0x6F ∷ 0x6F ∷ 0x74 ∷ 0x73 ∷ 0x74 ∷ 0x72 ∷ 0x61 ∷ 0x70 ∷ 0x4D ∷ 0x65 ∷ 0x74 ∷ 0x68 ∷ 0x6F ∷ 0x64 ∷ 0x73  -- 18, at 84: BootstrapMethods
    ∷ 1 ∷ 0 ∷ 1 ∷ 0x49  -- 19, at 103: I
    ∷ 12 ∷ 0 ∷ 3 ∷ 0 ∷ 19  -- 20, at 107: m of type I
    ∷ 17 ∷ 0 ∷ 0 ∷ 0 ∷ 20  -- 21, at 112: Dynamic, method 0
    ∷ 18 ∷ 0 ∷ 1 ∷ 0 ∷ 5  -- 22, at 117: InvokeDynamic, method 1
    ∷ 0xFF ∷ 0xFF ∷ 0 ∷ 2 ∷ 0 ∷ 0 ∷ 0 ∷ 0  -- flags at 122, this, no super, no interfaces
    ∷ 0 ∷ 1 ∷ 0xFF ∷ 0xFF ∷ 0 ∷ 3 ∷ 0 ∷ 19 ∷ 0 ∷ 1  -- fields at 130; the one at 132: m of type I
    ∷ 0 ∷ 18 ∷ 0 ∷ 0 ∷ 0 ∷ 1 ∷ 0xEE  -- its attribute at 140 has that name, and a body at 146 that no rule is for
    ∷ 0 ∷ 1 ∷ 0xFF ∷ 0xFF ∷ 0 ∷ 3 ∷ 0 ∷ 4 ∷ 0 ∷ 0  -- methods at 147; the one at 149: m()V
    ∷ 0 ∷ 2 ∷ 0 ∷ 18 ∷ 0 ∷ 0 ∷ 0 ∷ 26  -- attributes at 157; BootstrapMethods at 159
    ∷ 0 ∷ 2 ∷ 0 ∷ 8 ∷ 0 ∷ 8  -- its body at 165: two methods; at 167 the handle of the first, and eight arguments
    ∷ 0 ∷ 12 ∷ 0 ∷ 13 ∷ 0 ∷ 14 ∷ 0 ∷ 16 ∷ 0 ∷ 11 ∷ 0 ∷ 2 ∷ 0 ∷ 9 ∷ 0 ∷ 10  -- from 171 on, one of each kind
    ∷ 0 ∷ 9 ∷ 0 ∷ 0  -- at 187 the handle of the second, without arguments
    ∷ 0 ∷ 19 ∷ 0 ∷ 0 ∷ 0 ∷ 6 ∷ 0 ∷ 1 ∷ 0 ∷ 8 ∷ 0 ∷ 0  -- an attribute I at 191, whose body at 197 is one method's
    ∷ []

abbrev room_x : Rooms
room_x = room 23 0 2 3

-- with these flags of the class, the field and the method, and this name of the last attribute
abbrev left_x : ℕ → ℕ → ℕ → ℕ → Left
left_x flags field method name = record {
  said = accept (record { slots = 23; minor = 0; major = 55; flags = flags; this = 2; parent = 0; interfaces = 0; fields = 1; methods = 1; used = 1; own = 2 });
  cells = 0 ∷ 10 ∷ 14 ∷ 17 ∷ 21 ∷ 27 ∷ 32 ∷ 37 ∷ 42 ∷ 46 ∷ 50 ∷ 53 ∷ 56 ∷ 61 ∷ 66 ∷ 0 ∷ 75 ∷ 0 ∷ 84 ∷ 103 ∷ 107 ∷ 112 ∷ 117 ∷ [];
  interfaces = [];
  columns = lent (field ∷ method ∷ []) (3 ∷ 3 ∷ []) (19 ∷ 4 ∷ []) (0 ∷ 1 ∷ []) (1 ∷ 0 ∷ []) (18 ∷ 18 ∷ name ∷ []) (146 ∷ 165 ∷ 197 ∷ []) (1 ∷ 26 ∷ 6 ∷ []);
}

abbrev yes_x : Left
yes_x = left_x 0xF631 0x50DF 0x1DFF 19

-- the last attribute is a BootstrapMethods too
abbrev doubled_x : List ℕ
doubled_x = put 192 (18 ∷ []) file_x

abbrev bootstraps : List Row
bootstraps =
    row all (call room_x file_x) yes_x (left_x 0xF631 0xFFFF 0xFFFF 19) (left_x 0xFFFF 0x50DF 0x1DFF 19)  -- flags not masked
    ∷ refused room_x (put 164 (24 ∷ []) file_x) 18 159 (no room_x 2 189) (no room_x 18 189)  -- a body that ends before the last number
    ∷ refused room_x (put 164 (27 ∷ []) file_x) 18 159 (no room_x 18 191) yes_x  -- one that ends a byte later
    ∷ refused room_x (put 166 (1 ∷ []) file_x) 18 159 (no room_x 18 187) yes_x  -- one of which a method is left over
    ∷ refused room_x (take 190 file_x) 2 165 (no room_x 18 159) (no room_x 2 189)  -- one that is not inside the file
    ∷ refused room_x doubled_x 16 21 (no room_x 17 22) (left_x 0xF631 0x50DF 0x1DFF 18)  -- two: 16 at slot 21 comes before 17 at slot 22
    ∷ refused room_x (put 114 (1 ∷ []) doubled_x) 17 21 (no room_x 16 21) (no room_x 17 22)  -- two, and the index of slot 21 too large for the second
    ∷ refused room_x (put 160 (19 ∷ []) file_x) 16 21 (no room_x 17 21) yes_x  -- none
    ∷ refused room_x (put 7 (54 ∷ []) file_x) 4 112 (no room_x 4 7) yes_x  -- a Dynamic at 54
    ∷ refused room_x (put 119 (2 ∷ []) file_x) 17 22 (no room_x 16 22) yes_x  -- an index too large
    ∷ refused room_x (put 119 (2 ∷ []) file_x ++ 0 ∷ []) 18 203 (no room_x 17 22) (no room_x 18 204)  -- after left-over bytes
    ∷ refused room_x (put 172 (1 ∷ []) file_x) 8 171 (no room_x 8 159) yes_x  -- a Utf8 as argument
    ∷ refused room_x (put 176 (15 ∷ []) file_x) 8 175 (no room_x 7 175) yes_x  -- Unused
    ∷ refused room_x (put 186 (21 ∷ []) file_x) 8 185 (no room_x 18 159) yes_x  -- a Dynamic
    ∷ refused room_x (put 184 (23 ∷ []) file_x) 7 183 (no room_x 8 183) yes_x  -- no slot
    ∷ refused room_x (put 188 (10 ∷ []) file_x) 8 187 (no room_x 8 159) yes_x  -- a method without a handle
    ∷ refused (room 23 0 2 1) (put 172 (1 ∷ []) file_x) 8 171 (no (room 23 0 2 1) 13 159) (no (room 23 0 2 1) 8 159)  -- a bad body without room
    ∷ refused (room 23 0 2 1) file_x 13 159 (no (room 23 0 2 1) 16 21) (no (room 23 0 2 1) 13 191)  -- a good one
    ∷ []

abbrev pub worked : List Row
worked = members ++ rooms ++ handles ++ bootstraps
