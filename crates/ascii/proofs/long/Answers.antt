-- `ascii::long` meets its contract. Assumes nothing.
use Prim.Native.Nat.{◌/◌}
use native.Mathlib.Omega.{arith}
use mathlib.Core.Path.{◌≡◌}
use mathlib.Core.Bool.{true, false}
use lib.ListN.{length}
use borrow.Author.Rules.{rules}
use borrow.Author.Tests.{tests}
use Rattle.std.specs.List.{list_all}
use Rattle.std.specs.Simd.{first_chunks}
use Rattle.std.proofs.lemmas.Iterator.{YieldsList-from_slice}
use Rattle.std.proofs.lemmas.Iterator.Search.{all_from_yields_List}
use Rattle.ascii.specs.Ascii.{every}
use Rattle.ascii.proofs.Windows.{every_words, last_word}
use Rattle.ascii.proofs.long.Goals as goal

pub returns-else-all : goal.returns-else-all
returns-else-all c =
    let s = c.args.s.now in
    let name = c.args.name in
    let words : c.all.result ≡ list_all (every name) (first_chunks 8 (length s / 8) s) = all_from_yields_List (every name) _ _ _ c.all.ensures.ran (YieldsList-from_slice _ cc) (λ x b q k. search (rules, tests)) in
    every_words name s _ false _ (omega arith) words c.if-all.false c.if-all.false

pub returns-then-all : goal.returns-then-all
returns-then-all c =
    let s = c.args.s.now in
    let name = c.args.name in
    let words : c.all.result ≡ list_all (every name) (first_chunks 8 (length s / 8) s) = all_from_yields_List (every name) _ _ _ c.all.ensures.ran (YieldsList-from_slice _ cc) (λ x b q k. search (rules, tests)) in
    every_words name s _ true _ (omega arith) words c.if-all.true
    (last_word (every name) s _ _ c.last_chunk.result c.last_chunk.ensures.cases (omega arith) c.is_some_and.ensures (λ w q. search (rules, tests)))
