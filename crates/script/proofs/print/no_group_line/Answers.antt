-- `print::no_group_line` meets its contract: the output is too short, or the text is put there.
use Rattle.script.specs.Print.{no_group_line}
use Rattle.script.proofs.WrittenLaws.{put-wrote, short-wrote}
use Rattle.script.proofs.print.no_group_line.Goals as goal

pub returns-then-out-lt8 : goal.returns-then-out-lt8
unfolding no_group_line
returns-then-out-lt8 c = short-wrote _ no_group_line c.if-out-lt8.true

pub returns : goal.returns
unfolding no_group_line
returns c = put-wrote _ no_group_line c.if-out-lt8.false c.put.ensures
