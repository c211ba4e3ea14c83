-- Text and names, on the bytes of a Utf8 entry. Document 01, "Texts, names, descriptors". Assumes nothing.
use Rattle.std.specs.Prelude.{ℕ, zero, suc, List, [], ◌∷◌, Bool, true, false, cond, not, ◌&&◌, ◌||◌, length, leb, ltb, eqb}

-- ---- lists of bytes

unfoldable pub one_of : List ℕ → ℕ → Bool
one_of [] b = false
one_of (c ∷ cs) b = eqb b c || one_of cs b

unfoldable pub none_of : List ℕ → List ℕ → Bool
none_of cs [] = true
none_of cs (b ∷ bs) = not (one_of cs b) && none_of cs bs

-- how many bytes stand before the first that is one of cs; all, where none is
unfoldable pub before : List ℕ → List ℕ → ℕ
before cs [] = 0
before cs (b ∷ bs) = cond (one_of cs b) 0 (suc (before cs bs))

unfoldable pub same : List ℕ → List ℕ → Bool
same [] [] = true
same [] (c ∷ cs) = false
same (b ∷ bs) [] = false
same (b ∷ bs) (c ∷ cs) = eqb b c && same bs cs

-- ---- forms: a range, lowest and highest, for each byte

abbrev pub Form : Type 0
Form = List (ℕ × ℕ)

unfoldable pub begins : Form → List ℕ → Bool
begins [] bs = true
begins (r ∷ rs) [] = false
begins (r ∷ rs) (b ∷ bs) = leb r.0 b && leb b r.1 && begins rs bs

-- the length of the first form that the bytes begin with; 0 where they begin with none
unfoldable pub form_length : List Form → List ℕ → ℕ
form_length [] bs = 0
form_length (f ∷ fs) bs = cond (begins f bs) (length f) (form_length fs bs)

-- how many bytes are covered by pieces that follow each other, each as long as `piece` says, up to where none begins; the first k bytes are covered unseen
unfoldable pub covered : (List ℕ → ℕ) → ℕ → List ℕ → ℕ
covered piece k [] = 0
covered piece zero (b ∷ bs) = elim (piece (b ∷ bs)) [ zero ↦ 0 | suc n ↦ suc (covered piece n bs) ]
covered piece (suc k) (b ∷ bs) = suc (covered piece k bs)

abbrev pub run : (List ℕ → ℕ) → List ℕ → ℕ
run piece bs = covered piece 0 bs

-- ---- text

-- a pair of surrogates
abbrev pub pair_form : Form
pair_form = (0xED, 0xED) ∷ (0xA0, 0xAF) ∷ (0x80, 0xBF) ∷ (0xED, 0xED) ∷ (0xB0, 0xBF) ∷ (0x80, 0xBF) ∷ []

-- three bytes of shortest form without surrogates, or a pair
abbrev pub wide_forms : List Form
wide_forms =
    ((0xE0, 0xE0) ∷ (0xA0, 0xBF) ∷ (0x80, 0xBF) ∷ [])
    ∷ ((0xE1, 0xEC) ∷ (0x80, 0xBF) ∷ (0x80, 0xBF) ∷ [])
    ∷ ((0xED, 0xED) ∷ (0x80, 0x9F) ∷ (0x80, 0xBF) ∷ [])
    ∷ ((0xEE, 0xEF) ∷ (0x80, 0xBF) ∷ (0x80, 0xBF) ∷ [])
    ∷ pair_form
    ∷ []

abbrev pub text_forms : List Form
text_forms =
    ((0x01, 0x7F) ∷ [])
    ∷ ((0xC0, 0xC0) ∷ (0x80, 0x80) ∷ [])
    ∷ ((0xC2, 0xDF) ∷ (0x80, 0xBF) ∷ [])
    ∷ wide_forms

-- the length of the code point that the bytes begin with; 0 where there is none
unfoldable pub text_form : List ℕ → ℕ
text_form bs = form_length text_forms bs

unfoldable pub is_text : List ℕ → Bool
is_text bs = eqb (run text_form bs) (length bs)

-- ---- names

-- `. ; [ /`
abbrev pub marks : List ℕ
marks = 0x2E ∷ 0x3B ∷ 0x5B ∷ 0x2F ∷ []

-- not empty, none of `. ; [ /`
unfoldable pub unqualified : List ℕ → Bool
unqualified bs = ltb 0 (length bs) && none_of marks bs

-- the same, of a method's name (`true`) without `< >` too: what one pass over a name looks for
abbrev pub angles : List ℕ
angles = 0x3C ∷ 0x3E ∷ []

abbrev pub method_marks : List ℕ
method_marks = 0x3C ∷ 0x3E ∷ marks

abbrev pub name_marks : Bool → List ℕ
name_marks method = cond method method_marks marks

unfoldable pub plain : Bool → List ℕ → Bool
plain method bs = ltb 0 (length bs) && none_of (name_marks method) bs

-- the parts between the c's
unfoldable pub onto : ℕ → List (List ℕ) → List (List ℕ)
onto b [] = (b ∷ []) ∷ []
onto b (w ∷ ws) = (b ∷ w) ∷ ws

unfoldable pub split : ℕ → List ℕ → List (List ℕ)
split c [] = [] ∷ []
split c (b ∷ bs) = cond (eqb b c) ([] ∷ split c bs) (onto b (split c bs))

unfoldable pub all_of : (List ℕ → Bool) → List (List ℕ) → Bool
all_of test [] = true
all_of test (w ∷ ws) = test w && all_of test ws

-- one or more unqualified names joined by `/`
unfoldable pub binary : List ℕ → Bool
binary bs = all_of unqualified (split 0x2F bs)

-- a walk along a binary name, from a name's start or (`seen`) from inside it: whether a byte can follow, how many bytes follow each other so, and whether a name, and no `/`, stands before the first that does not
unfoldable pub follows : Bool → ℕ → Bool
follows seen b = cond (eqb b 0x2F) seen (not (one_of marks b))

unfoldable pub walked : Bool → List ℕ → ℕ
walked seen [] = 0
walked seen (b ∷ bs) = cond (follows seen b) (suc (walked (not (eqb b 0x2F)) bs)) 0

unfoldable pub whole : Bool → List ℕ → Bool
whole seen [] = seen
whole seen (b ∷ bs) = cond (follows seen b) (whole (not (eqb b 0x2F)) bs) seen

-- `<init>`, `<clinit>` and `BootstrapMethods`
abbrev pub init : List ℕ
init = 0x3C ∷ 0x69 ∷ 0x6E ∷ 0x69 ∷ 0x74 ∷ 0x3E ∷ []

abbrev pub clinit : List ℕ
clinit = 0x3C ∷ 0x63 ∷ 0x6C ∷ 0x69 ∷ 0x6E ∷ 0x69 ∷ 0x74 ∷ 0x3E ∷ []

abbrev pub bootstrap_methods : List ℕ
bootstrap_methods = 0x42 ∷ 0x6F ∷ 0x6F ∷ 0x74 ∷ 0x73 ∷ 0x74 ∷ 0x72 ∷ 0x61 ∷ 0x70 ∷ 0x4D ∷ 0x65 ∷ 0x74 ∷ 0x68 ∷ 0x6F ∷ 0x64 ∷ 0x73 ∷ []

unfoldable pub is_init : List ℕ → Bool
is_init bs = same bs init

unfoldable pub is_clinit : List ℕ → Bool
is_clinit bs = same bs clinit

unfoldable pub is_bootstrap_methods : List ℕ → Bool
is_bootstrap_methods bs = same bs bootstrap_methods

-- unqualified and no `<` or `>`, except `<init>` outside interfaces and `<clinit>`
unfoldable pub method_name : Bool → List ℕ → Bool
method_name interface bs = not interface && is_init bs || is_clinit bs || unqualified bs && none_of angles bs

-- one of the pairs `\\ \: \@`
abbrev pub escaped : List ℕ
escaped = 0x5C ∷ 0x3A ∷ 0x40 ∷ []

unfoldable pub escape : List ℕ → Bool
escape [] = false
escape (b ∷ []) = false
escape (b ∷ c ∷ bs) = eqb b 0x5C && one_of escaped c

-- a byte of a code point from 0x20 up but `\ : @`. In text the byte C0 stands only in C0 80, which is code point 0.
unfoldable pub module_byte : ℕ → Bool
module_byte b = leb 0x20 b && (not (one_of escaped b) && not (eqb b 0xC0))

-- the length of the pair, or of the byte, that a module name can begin with; 0 where there is none
unfoldable pub module_form : List ℕ → ℕ
module_form [] = 0
module_form (b ∷ bs) = cond (escape (b ∷ bs)) 2 (cond (module_byte b) 1 0)

-- such pairs and bytes from the left; it may be empty
unfoldable pub module_name : List ℕ → Bool
module_name bs = eqb (run module_form bs) (length bs)
