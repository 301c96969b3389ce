-- `bytes::find` meets its contract.
use borrow.Author.Rules.{rules}
use borrow.Author.Tests.{tests}
use lib.Dec.{eqb}
use Rattle.std.proofs.lemmas.Iterator.{YieldsList-from_slice}
use Rattle.std.proofs.lemmas.Iterator.Search.{position_from_yields_List}
use Rattle.script.proofs.LinesLaws.{found_is}
use Rattle.script.proofs.bytes.find.Goals as goal

pub returns : goal.returns
returns c =
    let a = c.args in
    let p = c.position in
    found_is _ _ _
    (position_from_yields_List (λ b. eqb b a.c) _ _ p.result p.ensures.ran (YieldsList-from_slice a.s.now cc) (λ x b q k. search (rules, tests)))
