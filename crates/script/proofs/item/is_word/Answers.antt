-- `item::is_word` meets its contract: no byte is no word, and any others are one by their bytes alone.
use borrow.Author.Rules.{rules}
use borrow.Author.Tests.{tests}
use mathlib.Core.Path.{◌≡◌}
use lib.ListN.{length}
use Rattle.std.proofs.lemmas.Iterator.{YieldsList-from_slice}
use Rattle.std.proofs.lemmas.Iterator.Search.{all_from_yields_List}
use Rattle.script.specs.Items.{is_printable, is_word}
use Rattle.script.proofs.ItemsLaws.{is_word-from}
use Rattle.script.proofs.item.is_word.Goals as goal

pub returns-then-not-is_empty : goal.returns-then-not-is_empty
returns-then-not-is_empty c =
    is_word-from _ (search (rules, tests))
    (all_from_yields_List is_printable _ _ c.all.result c.all.ensures.ran (YieldsList-from_slice c.args.s.now cc) (λ x b q k. search (rules, tests)))

pub returns-else-not-is_empty : goal.returns-else-not-is_empty
unfolding is_word
returns-else-not-is_empty c =
    let none : length c.args.s.now ≡ 0 = search (rules, tests) in
    rw (c.if-not-is_empty.false, none)
