-- What the code shows of an item and of a line: numbers of 32 bits, and a word by its length.
use Rattle.std.specs.Prelude.{cond, List, ℕ, ◌-◌, min, eqb, length, drop, Option, Some, None}
use Prim.Native.Char.{code}
use Rattle.rules.specs.Maps.{all}
use Rattle.rules.specs.Message.{last}
use Rattle.script.specs.Items.{is_digit, is_number, value_from, value, Command, groups, sends, arrives, requests, takes, unreadable}
use Rattle.script.specs.Script.{in_range}
use Rattle.script.specs.declared.line.Line.{Line}
use Rattle.script.specs.declared.line.Line.TheVariants.{Group, Send, Arrive, Request, Take}
use Rattle.script.specs.declared.line.Group.{Group as Opening}

-- a number too large for 32 bits counts as the last of them, which is no unit and no frame
abbrev pub held : ℕ → ℕ
held x = min x last

unfoldable pub digit_of : ℕ → Option ℕ
digit_of b = cond (is_digit b) (Some (b - 48)) None

-- v with further digits
unfoldable pub digits_from : ℕ → List ℕ → Option ℕ
digits_from v l = cond (all is_digit l) (Some (held (value_from v l))) None

unfoldable pub value_in : List ℕ → Option ℕ
value_in l = cond (is_number l) (Some (held (value l))) None

unfoldable pub shown : Command → Option Line
shown (groups n w) = Some (Group (record { n = held n; w = held w }))
shown (sends u word) = Some (Send (held u) (length word))
shown (arrives u f) = Some (Arrive (held u) (held f))
shown (requests u k) = Some (Request (held u) (held k))
shown (takes u) = Some (Take (held u))
shown unreadable = None

-- the command that such a line is, where l are its bytes: the word is the last `len` of them
abbrev pub said : Option Line → List ℕ → Command
said (Some (Group g)) l = groups g.n g.w
said (Some (Send u len)) l = sends u (drop (length l - len) l)
said (Some (Arrive u f)) l = arrives u f
said (Some (Request u k)) l = requests u k
said (Some (Take u)) l = takes u
said None l = unreadable

-- letter c and two numbers
unfoldable pub of_numbers : ℕ → ℕ → ℕ → Option Line
of_numbers c u x =
    cond (eqb c (code "G")) (Some (Group (record { n = u; w = x })))
    (cond (eqb c (code "A")) (Some (Arrive u x)) (cond (eqb c (code "R")) (Some (Request u x)) None))

unfoldable pub group_in : Option Line → Option Opening
group_in (Some (Group g)) = cond (in_range g.n g.w) (Some g) None
group_in (Some (Send u len)) = None
group_in (Some (Arrive u f)) = None
group_in (Some (Request u k)) = None
group_in (Some (Take u)) = None
group_in None = None
