-- A statement: what the text of a contract claims, for a function over a struct that holds slices or over a slice of structs, of whose contract the kit makes no `Learnt`. Assumes nothing.
use Rattle.std.specs.Prelude.{◌≡◌, List, [], ◌∷◌}
use seplogic.Ra.Ura.{Ura}
use base.Logic.{SProp, emp, sep}
use prog.Memory.{Memory}
use prog.Routine.{Routine}
use types.Logic.{Logic}
use contract.Lifetimes.{Lfts}
use contract.Monad.{Fun, fact}
use denote.Triple.Entry.{Args, Res}
use denote.Triple.Clauses.{Ended, AtExit, Clauses}
use borrow.Fn.World.{World}

-- plain facts, as the clauses of a contract say them: `⌜ φ ⌝`, joined by ∗
abbrev pub facts : (w : World) → List (Type 0) → SProp w.𝓤
facts w [] = emp w.𝓤
facts w (φ ∷ []) = fact w.𝓤 φ
facts w (φ ∷ ψ ∷ φs) = sep w.𝓤 (fact w.𝓤 φ) (facts w (ψ ∷ φs))

-- the clauses of a contract as the kit makes them of its text, at every model of the logic: `clauses` of `Rattle.CRATE.proofs.FUNCTION`, over its `ended`
abbrev pub Text : Ended → Type 2
Text T = (M : Type 1) (𝓤 : Ura M) (𝓛 : Logic 𝓤) (mem : Memory → SProp 𝓤) (run : Routine → Fun 𝓤) → Clauses 𝓤 T

-- at these arguments they claim this of what is answered and of the arguments at exit, no more and no less
pub record Claims (T : Ended) (c : Text T) (κs : Lfts T.signature.lifetimes) (a : Args T.signature κs) (claims : Res T.signature κs → AtExit T κs → List (Type 0)) : Type 3 where
  pub text : (w : World) (g : (c w.M w.𝓤 w.𝓛 w.𝓜.mem w.𝓡.run κs a).ghost) (z : Res T.signature κs) (e : AtExit T κs) →
      (c w.M w.𝓤 w.𝓛 w.𝓜.mem w.𝓡.run κs a).ensures g z e ≡ facts w (claims z e)
