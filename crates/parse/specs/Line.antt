-- A line and its words, as lists of bytes.
use Rattle.std.specs.Prelude.{ℕ, suc, ◌+◌, ◌-◌, ◌≤◌, Bool, true, false, not, ◌&&◌, ◌||◌, List, [], ◌∷◌, ◌++◌, ◌≡◌, ltb, eqb, length, drop, get_or}
use Rattle.rules.specs.Rules.{pick}

-- "Words are separated by spaces or tabs."
abbrev pub is_blank : ℕ → Bool
is_blank b = eqb b 32 || eqb b 9

-- "`#` starts a comment that runs to the end of the line, wherever it stands." Every other byte stands in a word: where it is not
-- printable, the word is no command, no number and no bytes, so that the line is bad
abbrev pub in_word : ℕ → Bool
in_word b = not (is_blank b) && not (eqb b 35)

-- a word that has ended: none where it has no byte
abbrev pub ended : List ℕ → List (List ℕ)
ended [] = []
ended (b ∷ w) = (b ∷ w) ∷ []

-- the words of a text, the bytes w of its first word being read already
unfoldable pub words_on : List ℕ → List ℕ → List (List ℕ)
words_on w [] = ended w
words_on w (b ∷ bs) = pick (in_word b) (words_on (w ++ (b ∷ [])) bs) (ended w ++ pick (is_blank b) (words_on [] bs) [])

-- the words of a line, up to its comment
abbrev pub words_of : List ℕ → List (List ℕ)
words_of line = words_on [] line

-- how many bytes at the start of a text pass a test
unfoldable pub lead : (ℕ → Bool) → List ℕ → ℕ
lead p [] = 0
lead p (b ∷ bs) = pick (p b) (suc (lead p bs)) 0

-- how many bytes stand before the first byte b; all where there is none
abbrev pub before : ℕ → List ℕ → ℕ
before b l = lead (λ x. not (eqb x b)) l

-- where the next word from a place on stands: behind the blanks, up to a byte of no word; `start` is `end` where no word is left
pub record NextWord (line : List ℕ) (place start end : ℕ) : Type 0 where
  pub starts : start ≡ place + lead is_blank (drop place line)
  pub ends : end ≡ start + lead in_word (drop start line)
  pub inside : end ≤ length line

-- the longest line, without its LF
abbrev pub most_bytes : ℕ
most_bytes = 4096

-- "One CR right before the LF is passed over": how many bytes of a line that ended in LF count. A line that is too long stays so
unfoldable pub without_cr : List ℕ → ℕ
without_cr l = pick (not (ltb most_bytes (length l)) && eqb (get_or l (length l - 1) 0) 13) (length l - 1) (length l)

-- two texts are the same
unfoldable pub same : List ℕ → List ℕ → Bool
same [] [] = true
same [] (y ∷ ys) = false
same (x ∷ xs) [] = false
same (x ∷ xs) (y ∷ ys) = eqb x y && same xs ys
