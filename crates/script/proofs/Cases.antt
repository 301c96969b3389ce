-- Whole scripts and what they print: one table, each row worked out by hand from 01, proved by computation.
use mathlib.Core.Path.{◌≡◌, refl}
use mathlib.Core.List.{List, [], ◌∷◌, ◌++◌, map}
use Prim.Native.String.{String}
use lib.ListN.{replicate}
use Rattle.rules.specs.Maps.{between, upd, column, units}
use Rattle.rules.specs.Fields.{table, row_of, tags_of, field_fits}
use Rattle.rules.specs.Message.{encode, decode, in_limits, read_as}
use Rattle.rules.specs.State.{min_al, min_pal, from, free, opened, closed}
use Rattle.rules.specs.Steps.{window, may_send, outgoing, known, free_slot, placed, stored, noted, asking, is_kept, resent_from, precedes, preacked, preack_of, moved, confirm, accepted, sent, without_taken}
use Rattle.rules.specs.Sound.{ranges_fit, nexts_fit, window_fits, place_fits, kept_fit, sound}
use Rattle.rules.specs.Calls.{full, foreign, open_checks, opening, send_checks, send, data_checks, arrive_data, request_checks, arrive_request, arrive, make_checks, make_request, oldest, take_checks, take}
use Rattle.script.specs.Lines.{line_feed}
use Rattle.script.specs.Items.{is_number, is_word, of_two, of_three, command}
use Rattle.script.specs.Desk.{opened_desk}
use Rattle.script.specs.Print.{text, decimal, group_line, no_group_line, reply_line}
use Rattle.script.specs.Script.{in_range, printed}

pub record Case : Type 0 where
  pub script : String
  pub prints : String

infix 20 ◌⇝◌
abbrev ◌⇝◌ : String → String → Case
s ⇝ t = record { script = s; prints = t }

-- ---- groups at work

runs : List Case
runs =
    -- 01's own: the window shuts after two sends; frame 2 leaves a gap at unit 2, and frame 1 is next
    ("G 2 2\nS 1 p\nS 1 q\nS 1 r\nA 2 2\nA 2 1\n" ⇝ "group 2 2\n2 0\n3 0\n4 15\n5 9\n6 0\n")
    -- Unit 2 misses p, asks for it (frame 3), and hears p and q again. Then r, s and t go to and fro: at line 13, t shows
    -- that unit 2 expects 4 from unit 1 and 2 from itself, so that r is pre-acknowledged, by which unit 2 expects 3 of unit
    -- 1, as q says that unit 1 expects 2: p is confirmed, q is not. There is no frame 7 and no unit 3.
    ∷ ("G 2 2\nS 1 p\nS 1 q\nA 2 2\nR 2 1\nA 1 3\nA 2 1\nA 2 2\nS 2 r\nA 1 4\nS 1 s\nA 2 5\nS 2 t\nT 2\nT 2\nA 2 7\nS 3 x"
    ⇝ "group 2 2\n2 0\n3 0\n4 9\n5 0\n6 0\n7 0\n8 0\n9 0\n10 0\n11 0\n12 0\n13 0\n14 0 1 1 p\n15 18\n16 ?\n17 ?\n")
    ∷ []

-- ---- first lines

firsts : List Case
firsts =
    ("" ⇝ "group ?\n")
    ∷ ("\nG 2 2\n" ⇝ "group ?\n")
    ∷ ("S 1 p\nS 1 q\n" ⇝ "group ?\n")
    ∷ ("G 1 2\n" ⇝ "group ?\n")
    ∷ ("G 4 2\n" ⇝ "group ?\n")
    ∷ ("G 2 1\n" ⇝ "group ?\n")
    ∷ ("G 2 5\n" ⇝ "group ?\n")
    ∷ ("G 2 2\r\n" ⇝ "group ?\n")
    ∷ ("G 02 2\n" ⇝ "group ?\n")
    ∷ ("G 3 4" ⇝ "group 3 4\n")
    ∷ []

-- ---- later lines

laters : List Case
laters =
    -- numbers that are no unit and no frame, however long; `R u k` asks the unit all the same
    ("G 3 2\nS 0 p\nS 4 p\nA 1 0\nA 1 1\nA 1 99999999999\nT 99999999999\nR 1 0\nR 1 1\nR 1 2\nR 1 4\nR 1 99999999999\nR 4 1\nT 1\n"
    ⇝ "group 3 2\n2 ?\n3 ?\n4 ?\n5 ?\n6 ?\n7 ?\n8 5\n9 5\n10 18\n11 5\n12 5\n13 ?\n14 18\n")
    -- spaces, items and letters
    ∷ ("G 2 2\n\n \n S 1 p\nS  1 p\nS 1  p\nS 1 p \nS 1 p q\nS 1\nS\nT\nT 1 1\nA 1\nSS 1 p\ns 1 p\nG 2 2\n"
    ⇝ "group 2 2\n2 ?\n3 ?\n4 ?\n5 ?\n6 ?\n7 ?\n8 ?\n9 ?\n10 ?\n11 ?\n12 ?\n13 ?\n14 ?\n15 ?\n16 ?\n")
    -- numbers and words
    ∷ ("G 2 2\nS 01 p\nS +1 p\nS 1. p\nT 00\nT 0\nT 1\r\nS 1 \tp\nS 1 p\u{7f}\nS 1 !~\n"
    ⇝ "group 2 2\n2 ?\n3 ?\n4 ?\n5 ?\n6 ?\n7 ?\n8 ?\n9 ?\n10 0\n")
    -- 80 bytes make a line, with a word that is too long to be sent, and 81 do not
    ∷ ("G 2 2\nS 1 xxxxxxxxxxxxxxxxxxxxxxxxxxxxxxxxxxxxxxxxxxxxxxxxxxxxxxxxxxxxxxxxxxxxxxxxxxxx\nS 1 xxxxxxxxxxxxxxxxxxxxxxxxxxxxxxxxxxxxxxxxxxxxxxxxxxxxxxxxxxxxxxxxxxxxxxxxxxxxx\n"
    ⇝ "group 2 2\n2 13\n3 ?\n")
    ∷ []

pub cases : List Case
cases = runs ++ firsts ++ laters

pub cases-hold : map (λ (c : Case). printed (text c.script)) cases ≡ map (λ (c : Case). text c.prints) cases
unfolding runs firsts laters cases
    between upd column units table row_of tags_of field_fits encode decode in_limits read_as min_al min_pal from free opened closed
    window may_send outgoing known free_slot placed stored noted asking is_kept resent_from precedes preacked preack_of moved confirm accepted sent without_taken
    ranges_fit nexts_fit window_fits place_fits kept_fit sound
    full foreign open_checks opening send_checks send data_checks arrive_data request_checks arrive_request arrive make_checks make_request oldest take_checks take
    is_number is_word of_two of_three command opened_desk decimal group_line no_group_line reply_line in_range printed
cases-hold = refl

-- the 65th later line is not read
pub sixty-four : printed (text "G 2 2\n" ++ replicate 64 line_feed ++ text "S 1 p\n") ≡ printed (text "G 2 2\n" ++ replicate 64 line_feed)
unfolding between units opened opening open_checks ranges_fit is_number is_word of_two of_three command opened_desk decimal group_line no_group_line reply_line in_range printed
sixty-four = refl
