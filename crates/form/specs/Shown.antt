-- What is shown for a line and its answer. An answer ends in LF; it has no bytes where the line wants none.
use Rattle.std.specs.Prelude.{ℕ, ◌+◌, ◌-◌, Bool, true, false, List, [], ◌∷◌, ◌++◌, length, take, drop}
use Rattle.print.specs.Text.{bytes, line_end}
use Rattle.parse.specs.Line.{before, same}
use Rattle.form.specs.declared.Form.{Form}
use Rattle.form.specs.declared.Form.TheVariants.{Alone, Beside, Under}

-- the line, where its answer stands under it
unfoldable pub above : Form → List ℕ → List ℕ
above Alone line = []
above Beside line = []
above Under line = line ++ line_end

-- what stands before an answer
abbrev pub mark : Form → List ℕ
mark Alone = []
mark Beside = []
mark Under = bytes "-> "

-- the text that a line wants: what stands behind its first `#`, after one byte
unfoldable pub wanted : List ℕ → List ℕ
wanted line = drop (before 35 line + 2) line

-- an answer without its LF
abbrev pub said : List ℕ → List ℕ
said answer = take (length answer - 1) answer

-- whether an answer is the wanted one
abbrev pub verdict : Bool → List ℕ
verdict true = bytes " | same\n"
verdict false = bytes " | DIFFERS\n"

-- what was said, what was wanted, and the verdict
abbrev pub compared : List ℕ → List ℕ → List ℕ
compared s w = s ++ (bytes " | wanted " ++ (w ++ verdict (same s w)))

-- an answer, as a form shows it
abbrev pub answered : Form → List ℕ → List ℕ → List ℕ
answered Alone line answer = answer
answered Beside line answer = compared (said answer) (wanted line)
answered Under line answer = mark Under ++ answer

-- the same where there is an answer, and else nothing
unfoldable pub aside : Form → List ℕ → List ℕ → List ℕ
aside form line [] = []
aside form line (b ∷ bs) = answered form line (b ∷ bs)

-- all that is shown
abbrev pub shown : Form → List ℕ → List ℕ → List ℕ
shown form line answer = above form line ++ aside form line answer

-- n bytes that stand in a buffer behind the room for the mark of a form, which begins at a place
abbrev pub standing : Form → List ℕ → ℕ → ℕ → List ℕ
standing form out place n = take n (drop (place + length (mark form)) out)
