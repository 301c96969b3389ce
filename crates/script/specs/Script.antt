-- The bytes that a whole script prints.
use Rattle.std.specs.Prelude.{Bool, cond, ◌&&◌, List, [], ◌∷◌, ◌++◌, ℕ, suc, leb, take}
use Rattle.std.proofs.Math.Option.{Option, none, some}
use Rattle.rules.specs.Sound.{ranges_fit}
use Rattle.script.specs.Lines.{lines}
use Rattle.script.specs.Items.{Command, groups, sends, arrives, requests, takes, unreadable, command}
use Rattle.script.specs.Desk.{Desk, opened_desk, Acted, act}
use Rattle.script.specs.Print.{group_line, no_group_line, reply_line}

pub record Group : Type 0 where
  pub n : ℕ
  pub w : ℕ

-- 01's ranges, and n at most 3
unfoldable pub in_range : ℕ → ℕ → Bool
in_range n w = ranges_fit 1 n w && leb n 3

-- the group that a first line names; none where it is unreadable or out of range
abbrev pub group_of : Command → Option Group
group_of (groups n w) = cond (in_range n w) (some (record { n = n; w = w })) none
group_of (sends u word) = none
group_of (arrives u f) = none
group_of (requests u k) = none
group_of (takes u) = none
group_of unreadable = none

-- what the lines ls print at desk d, the first of them being line k
abbrev pub printed_from : Desk → ℕ → List (List ℕ) → List ℕ
printed_from d k [] = []
printed_from d k (l ∷ ls) =
    let a : Acted = act d (command l) in
    reply_line k a.reply ++ printed_from a.desk (suc k) ls

-- the first line is line 1; later lines after the 64th are not read
abbrev pub printed_after : Option Group → List (List ℕ) → List ℕ
printed_after none ls = no_group_line
printed_after (some g) ls = group_line g.n g.w ++ printed_from (opened_desk g.n g.w) 2 (take 64 ls)

abbrev pub printed_lines : List (List ℕ) → List ℕ
printed_lines [] = no_group_line
printed_lines (l ∷ ls) = printed_after (group_of (command l)) ls

unfoldable pub printed : List ℕ → List ℕ
printed input = printed_lines (lines input)
