-- Reading in parts prints what the whole input prints, and nothing once the script is over.
use mathlib.Core.Bool.{Bool, true, false, cond}
use mathlib.Core.List.{List, [], ◌∷◌, ◌++◌, append-nil, append_assoc, flatten}
use mathlib.Core.Option.{Option, none, some}
use mathlib.Core.Path.{◌≡◌, refl, sym, ap, ◌∙◌}
use Prim.Native.Nat.{ℕ, zero, suc, ◌+◌, ◌<◌, ◌≤◌}
use native.Mathlib.Omega.{arith}
use lib.Dec.{eqb, ltb}
use lib.ListN.{length, take, length-append, length-take}
use lib.Seq.{take_all, take-append-le}
use borrow.Author.Tests.{lt-ltb, le-ltb, lt-leb}
use Rattle.rules.proofs.MapsLaws.{Lt?, lt, ge, lt?, Eq?, same, other, eq?}
use Rattle.script.specs.Lines.{line_feed, lines}
use Rattle.script.specs.Items.{Command, unreadable, command}
use Rattle.script.specs.Desk.{Desk, opened_desk, act}
use Rattle.script.specs.Print.{group_line, no_group_line, reply_line}
use Rattle.script.specs.Script.{Group, group_of, printed_from, printed_after, printed_lines, printed}
use Rattle.script.specs.Reader.{Begun, empty, longer, command_in, Stage, first, later, over, Told, begins, tells, closes, Reader, start, Read, read_line, read_byte, read_each, read_part, read_parts, ends, printed_parts}
use Rattle.script.proofs.LinesLaws.{lines_from, lines_from-nil}

-- ---- the line that is not ended yet

-- what is kept of p
abbrev pub begun : List ℕ → Begun
begun p = record { bytes = take 80 p; long = ltb 80 (length p) }

pub longer-begun : (p : List ℕ) (b : ℕ) → longer (begun p) b ≡ begun (p ++ (b ∷ []))
unfolding longer
longer-begun p b = go (lt? (length p) 80)
  where
    go : {t : Bool} → Lt? (length p) 80 t
        → cond (ltb (length (take 80 p)) 80) (record { bytes = take 80 p ++ (b ∷ []); long = ltb 80 (length p) }) (record { bytes = take 80 p; long = true })
        ≡ begun (p ++ (b ∷ []))
    go (lt h) =
        let long : length (p ++ (b ∷ [])) ≤ 80 = simp length-append (omega arith) in
        rw (
          take_all 80 p (omega arith),
          take_all 80 (p ++ (b ∷ [])) long,
          lt-ltb (length p) 80 h,
          le-ltb 80 (length p) (omega arith),
          le-ltb 80 (length (p ++ (b ∷ []))) long,
        )
    go (ge h) =
        let full : length (take 80 p) ≡ 80 = length-take 80 p ∙ omega arith in
        let long : 80 < length (p ++ (b ∷ [])) = simp length-append (omega arith) in
        rw (take-append-le 80 p (b ∷ []) h, le-ltb (length (take 80 p)) 80 (omega arith), lt-ltb 80 (length (p ++ (b ∷ []))) long)

pub command_in-begun : (p : List ℕ) → command_in (begun p) ≡ command p
unfolding command_in command
command_in-begun p = go (lt? 80 (length p))
  where
    go : {t : Bool} → Lt? 80 (length p) t → cond t unreadable (command (take 80 p)) ≡ command p
    go (lt h) = rw (lt-leb (length p) 80 h)
    go (ge h) = ap command (take_all 80 p h)

-- ---- lines

-- what the lines ls print from stage s on, with the end of the input
abbrev told : Stage → List (List ℕ) → List ℕ
told s [] = closes s
told s (l ∷ ls) =
    let t : Told = tells s (command l) in
    t.text ++ told t.next ls

told_over : (ls : List (List ℕ)) → told over ls ≡ []
told_over [] = refl
told_over (l ∷ ls) = told_over ls

-- line k is to come, and m more may follow
told-later : (ls : List (List ℕ)) (d : Desk) (k m : ℕ) → k + m ≡ 65 → told (later d k) ls ≡ printed_from d k (take (suc m) ls)
told-later [] d k m e = refl
told-later (l ∷ ls) d k zero e =
    rw (le-ltb k 65 (omega arith), told_over ls) refl
told-later (l ∷ ls) d k (suc m) e =
    let a = act d (command l) in
    rw (lt-ltb k 65 (omega arith)) (ap (λ (x : List ℕ). reply_line k a.reply ++ x) (told-later ls a.desk (suc k) m (omega arith)))

told-first : (ls : List (List ℕ)) → told first ls ≡ printed_lines ls
told-first [] = refl
told-first (l ∷ ls) = go (group_of (command l))
  where
    go : (g : Option Group) → (begins g).text ++ told (begins g).next ls ≡ printed_after g ls
    go none = rw (told_over ls) (append-nil no_group_line)
    go (some g) = ap (λ (x : List ℕ). group_line g.n g.w ++ x) (told-later ls (opened_desk g.n g.w) 2 63 refl)

-- the end of the input prints nothing after a line
closes-tells : (s : Stage) (c : Command) → closes (tells s c).next ≡ []
closes-tells first c = go (group_of c)
  where
    go : (g : Option Group) → closes (begins g).next ≡ []
    go none = refl
    go (some g) = refl
closes-tells (later d k) c = go (ltb k 65)
  where
    go : (t : Bool) → closes (cond t (later (act d c).desk (suc k)) over) ≡ []
    go true = refl
    go false = refl
closes-tells over c = refl

-- ---- bytes

-- what r prints of these bytes and the end of the input
abbrev rest : Reader → List ℕ → List ℕ
rest r l =
    let s : Read = read_part r l in
    s.text ++ ends s.next

rest-told : (l p : List ℕ) (s : Stage) → rest (record { line = begun p; stage = s }) l ≡ told s (lines_from p l)
unfolding ends read_byte
rest-told [] [] s = refl
rest-told [] (x ∷ p) s =
    rw (lt-ltb 0 (suc (length (take 79 p))) (omega arith), lt-ltb 0 (suc (length p)) (omega arith), command_in-begun (x ∷ p), closes-tells s (command (x ∷ p)))
    (sym (append-nil (tells s (command (x ∷ p))).text))
rest-told (b ∷ l) p s = go (eq? b line_feed) (λ q t. rest-told l q t)
  where
    more : Reader
    more = record { line = longer (begun p) b; stage = s }

    and_then : Read → List ℕ
    and_then t = t.text ++ (read_part t.next l).text ++ ends (read_part t.next l).next

    go : {t : Bool} → Eq? b line_feed t → ((q : List ℕ) (u : Stage) → rest (record { line = begun q; stage = u }) l ≡ told u (lines_from q l))
        → and_then (cond t (read_line (record { line = begun p; stage = s })) (record { next = more; text = [] }))
        ≡ told s (cond t (p ∷ lines_from [] l) (lines_from (p ++ (b ∷ [])) l))
    go (same e) ih =
        rw (command_in-begun p, append_assoc) (ap (λ (x : List ℕ). (tells s (command p)).text ++ x) (ih [] (tells s (command p)).next))
    go (other e) ih = rw (longer-begun p b) (ih (p ++ (b ∷ [])) s)

-- ---- parts

module _ {A : Type 0} (f : Reader → A → Read) where
  pub read_each-++ : (l m : List A) (r : Reader)
      → read_each f r (l ++ m)
      ≡ record { next = (read_each f (read_each f r l).next m).next; text = (read_each f r l).text ++ (read_each f (read_each f r l).next m).text }
  read_each-++ [] m r = refl
  read_each-++ (x ∷ l) m r = rw (read_each-++ l m (f r x).next, append_assoc) refl

pub read_parts-flatten : (ps : List (List ℕ)) (r : Reader) → read_parts r ps ≡ read_part r (flatten ps)
unfolding flatten
read_parts-flatten [] r = refl
read_parts-flatten (p ∷ ps) r = rw (read_each-++ read_byte p (flatten ps) r, read_parts-flatten ps (read_part r p).next) refl

-- however the input is cut into parts, it prints what 01 says of the whole
pub printed_parts-printed : (ps : List (List ℕ)) → printed_parts ps ≡ printed (flatten ps)
unfolding printed_parts printed
printed_parts-printed ps =
    rw (read_parts-flatten ps start) (rest-told (flatten ps) [] first ∙ ap (told first) (lines_from-nil (flatten ps)) ∙ told-first (lines (flatten ps)))

-- ---- once the script is over

-- nothing was printed, nothing will be
pub record Silent (s : Read) : Type 0 where
  pub nothing : s.text ≡ []
  pub stays : s.next.stage ≡ over
  pub never : ends s.next ≡ []

pub over-silent : (l : List ℕ) (b : Begun) → Silent (read_part (record { line = b; stage = over }) l)
unfolding read_byte ends
over-silent [] b = record { nothing = refl; stays = refl; never = go (ltb 0 (length b.bytes)) }
  where
    go : (t : Bool) → cond t (tells over (command_in b)).text (closes over) ≡ []
    go true = refl
    go false = refl
over-silent (x ∷ l) b = go (eqb x line_feed) (over-silent l)
  where
    and_then : Read → Read
    and_then s = record { next = (read_part s.next l).next; text = s.text ++ (read_part s.next l).text }

    go : (t : Bool) → ((c : Begun) → Silent (read_part (record { line = c; stage = over }) l))
        → Silent (and_then (cond t (read_line (record { line = b; stage = over })) (record { next = record { line = longer b x; stage = over }; text = [] })))
    go true ih = ih empty
    go false ih = ih (longer b x)
