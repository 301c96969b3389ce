use borrow.Author.Rules.{rules}
use Rattle.lists.proofs.EntryLaws.{shifted-down}
use Rattle.lists.proofs.shifted.Goals as goal

pub returns : goal.returns
returns c = shifted-down c.args.list _ 127 (search rules) c.copy_within.ensures.after
