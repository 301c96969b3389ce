-- A part of the input, byte by byte: what has been printed, and what is still to be read.
use mathlib.Core.List.{List, [], ◌∷◌, ◌++◌, append-nil, append_assoc}
use mathlib.Core.Path.{◌≡◌, refl, sym, ap, ◌∙◌}
use Prim.Native.Nat.{ℕ, ◌+◌, ◌-◌, ◌*◌, ◌<◌, ◌≤◌}
use native.Mathlib.Omega.{arith}
use native.Mathlib.Nat.{le_trans}
use native.Mathlib.Numerals.{add-one}
use lib.ListN.{length, get_or, take, drop, length-append, length-drop, drop_of_length-le}
use lib.Seq.{drop-cons, drop-length, take-append_seam, drop-append_seam, drop-drop}
use borrow.Author.Tests.{eq-eqb, ne_eqb}
use borrow.Rule.Slice.PartMut.{mid_of, put_mid, same_len_mid}
use Rattle.rules.specs.Calls.{written}
use Rattle.script.specs.Lines.{line_feed}
use Rattle.script.specs.Gathered.{begun_of, pushed}
use Rattle.script.specs.Reader.{longer, Read, read_line, read_byte, read_part}
use Rattle.script.proofs.CommandLaws.{take_rest}
use Rattle.bench.specs.declared.reading.Bench.{Bench}
use Rattle.bench.specs.Prints.{Prints}
use Rattle.bench.specs.Reading.{reader_of, Ready, Said, as_script, line_said, pushed_to, byte_said, part_said, Reads}

-- ---- one text after the other

pub prints-none : (out : List ℕ) → Prints [] out 0 out
prints-none out = record { count = refl; bytes = refl }

length-printed : {text out after : List ℕ} {len : ℕ} → Prints text out len after → len ≤ length out → length after ≡ length out
length-printed {text} {out} p h =
    ap length p.bytes ∙ length-append text (drop (length text) out) ∙ omega (arith, p.count, length-drop (length text) out)

pub prints-then : {text more out mid after : List ℕ} {len m : ℕ} → Prints text out len mid → Prints more (drop len mid) m after
    → Prints (text ++ more) out (len + m) (take len mid ++ after)
prints-then {text} {more} {out} {mid} {after} {len} {m} p q =
    record {
      count = rw (p.count, q.count) (sym (length-append text more));
      bytes = rw (q.bytes, p.bytes, p.count) together;
    }
  where
    together : take (length text) (written out text) ++ written (drop (length text) (written out text)) more ≡ written out (text ++ more)
    together =
        rw (
          take-append_seam text (drop (length text) out),
          drop-append_seam text (drop (length text) out),
          drop-drop (length more) (length text) out,
          length-append text more,
        )
        (sym (append_assoc text more (drop (length text + length more) out)))

-- ---- so far

-- s, and then what the bytes l say
abbrev and_said : Said → List ℕ → Said
and_said s l = record { next = (part_said s.next l).next; text = s.text ++ (part_said s.next l).text }

abbrev and_read : Read → List ℕ → Read
and_read s l = record { next = (read_part s.next l).next; text = s.text ++ (read_part s.next l).text }

-- i bytes of the part are read, b is what the bench then holds, and len bytes are printed
pub record Fed (b₀ : Bench) (part out₀ : List ℕ) (b : Bench) (len i : ℕ) (out : List ℕ) : Type 0 where
  pub text : List ℕ
  pub printed : Prints text out₀ len out
  pub long : length out ≡ length out₀
  pub within : i ≤ length part
  pub short : len ≤ 84 * i
  pub ready : Ready b
  pub exact : and_said (record { next = b; text = text }) (drop i part) ≡ part_said b₀ part
  pub means : and_read (record { next = reader_of b; text = text }) (drop i part) ≡ read_part (reader_of b₀) part

module _ (b₀ : Bench) (part out₀ : List ℕ) where
  module _ (b : Bench) (len i : ℕ) (out : List ℕ) (f : Fed b₀ part out₀ b len i out) where
    abbrev x : ℕ
    x = get_or part i 0

    next-byte : i < length part → drop i part ≡ x ∷ drop (i + 1) part
    next-byte h = drop-cons part i 0 h ∙ ap (λ (k : ℕ). x ∷ drop k part) (sym (add-one i))

    abbrev rest : List ℕ
    rest = drop (i + 1) part

    -- where the next byte says s, or is read as s
    said-next : i < length part → (s : Said) → byte_said b x ≡ s
        → record { next = (part_said s.next rest).next; text = f.text ++ (s.text ++ (part_said s.next rest).text) } ≡ part_said b₀ part
    unfolding part_said
    said-next h s e =
        ap (λ (s : Said). record { next = (part_said s.next rest).next; text = f.text ++ (s.text ++ (part_said s.next rest).text) }) (sym e)
        ∙ ap (and_said (record { next = b; text = f.text })) (sym (next-byte h))
        ∙ f.exact

    read_next : i < length part → (s : Read) → read_byte (reader_of b) x ≡ s
        → record { next = (read_part s.next rest).next; text = f.text ++ (s.text ++ (read_part s.next rest).text) } ≡ read_part (reader_of b₀) part
    read_next h s e =
        ap (λ (s : Read). record { next = (read_part s.next rest).next; text = f.text ++ (s.text ++ (read_part s.next rest).text) }) (sym e)
        ∙ ap (and_read (record { next = reader_of b; text = f.text })) (sym (next-byte h))
        ∙ f.means

    push-ready : Ready (pushed_to b x)
    push-ready = f.ready

    -- there is room for a line
    pub room-left : i < length part → 84 * length part ≤ length out₀ → 84 ≤ length (mid_of len (length out - len) out)
    room-left h room = rw (take_rest len out) (omega (arith, length-drop len out, f.short, f.long))

    -- any other byte belongs to the line
    module _ (h : i < length part) (apart : x ≡ line_feed → ⊥) where
      push-said : byte_said b x ≡ record { next = pushed_to b x; text = [] }
      unfolding byte_said
      push-said = rw (ne_eqb x line_feed apart)

      push-read : begun_of (pushed b.line x) ≡ longer (begun_of b.line) x → read_byte (reader_of b) x ≡ record { next = reader_of (pushed_to b x); text = [] }
      unfolding read_byte
      push-read grown = rw (ne_eqb x line_feed apart, grown)

      pub fed-push : begun_of (pushed b.line x) ≡ longer (begun_of b.line) x → Fed b₀ part out₀ (pushed_to b x) len (i + 1) out
      fed-push grown =
          record {
            text = f.text;
            printed = f.printed;
            long = f.long;
            within = omega arith;
            short = omega (arith, f.short);
            ready = push-ready;
            exact = said-next h (record { next = pushed_to b x; text = [] }) push-said;
            means = read_next h (record { next = reader_of (pushed_to b x); text = [] }) (push-read grown);
          }

    -- a line feed ends it
    module _ (h : i < length part) (ends : x ≡ line_feed) where
      line-said : byte_said b x ≡ line_said b
      unfolding byte_said
      line-said = rw (eq-eqb x line_feed ends)

      line_read : read_byte (reader_of b) x ≡ read_line (reader_of b)
      unfolding read_byte
      line_read = rw (eq-eqb x line_feed ends)

      nothing-behind : drop (length out - len) (drop len out) ≡ []
      nothing-behind = drop_of_length-le (drop len out) {i = length out - len} (omega (arith, length-drop len out))

      -- its text goes to what is left of the output
      pub fed-line : 84 * length part ≤ length out₀ → (e : Bench) (m : ℕ) (after : List ℕ)
          → Reads (line_said b) (read_line (reader_of b)) 84 (mid_of len (length out - len) out) e m after
          → Fed b₀ part out₀ e (len + m) (i + 1) (put_mid len (length out - len) out after)
      fed-line room e m after t =
          record {
            text = f.text ++ (line_said b).text;
            printed = rw (nothing-behind, append-nil) (prints-then f.printed (rw (take_rest len out) at t.tells.text));
            long = same_len_mid len (length out - len) out after (length-printed t.tells.text (le_trans t.tells.short (room-left h room))) ∙ f.long;
            within = omega arith;
            short = omega (arith, f.short, t.tells.short);
            ready = t.tells.ready;
            exact = rw (t.tells.next, append_assoc) (said-next h (line_said b) line-said);
            means = rw (t.tells.next, append_assoc) (read_next h (as_script (line_said b)) (line_read ∙ sym t.means));
          }

    pub fed-all : length part ≤ i → Reads (part_said b₀ part) (read_part (reader_of b₀) part) (84 * length part) out₀ b len out
    unfolding part_said
    fed-all h =
        record {
          tells = record {
            next = ap (λ (s : Said). s.next) exact;
            text = rw (← ap (λ (s : Said). s.text) exact) f.printed;
            short = omega (arith, f.short, f.within);
            ready = f.ready;
          };
          means = ap as_script (sym exact) ∙ means;
        }
      where
        end : drop i part ≡ []
        end = let e : i ≡ length part = omega (arith, f.within) in rw (e, drop-length part)

        exact : record { next = b; text = f.text } ≡ part_said b₀ part
        exact = rw (end, append-nil) at f.exact

        means : record { next = reader_of b; text = f.text } ≡ read_part (reader_of b₀) part
        means = rw (end, append-nil) at f.means
