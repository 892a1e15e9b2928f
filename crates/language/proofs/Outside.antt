-- The language once more, as a person at the console sees it: a bad line is answered `? LINE` and changes nothing; an answer is one line;
-- a byte that is not printable makes a line bad. Assumes nothing.
use mathlib.Core.Bool.{Bool, true, false, ◌&&◌, true≢false}
use mathlib.Core.List.{List, [], ◌∷◌, ◌++◌, append_assoc}
use mathlib.Core.Logic.{◌⊎◌, inl, inr, ⊎_elim}
use mathlib.Core.Path.{◌≡◌, refl, sym, ap, subst, ◌∙◌}
use Prim.Native.Nat.{ℕ, zero, suc, ◌+◌, ◌*◌, ◌/◌, ◌%◌, ◌≤◌, ◌<◌}
use Prim.Native.String.{String}
use native.Mathlib.Omega.{arith}
use lib.Dec.{ltb, eqb}
use lib.ListN.{length, take, drop, get_or, take-append-drop}
use lib.Seq.{length-take-le, get_or-take}
use borrow.Author.Tests.{ltb-true, ltb-false, eqb-true}
use Rattle.rules.specs.Rules.{pick}
use Rattle.rules.proofs.Tests.{bool_cases, and_true, or-true, clash}
use Rattle.rules.proofs.Cases.{pick_cases}
use Rattle.le.specs.Le.{le}
use Rattle.le.specs.Memory.{Memory, part, put}
use Rattle.controller.specs.Controller.{Controller}
use Rattle.print.specs.Text.{bytes, decimal_in, next, each, numbers, hex_digit, hex_byte, hex_word, line_end, bad_line}
use Rattle.parse.specs.Line.{is_blank, before, words_of, most_bytes, same}
use Rattle.parse.specs.Arguments.{arguments_in}
use Rattle.parse.proofs.Texts.{same_equal}
use Rattle.parse.proofs.Spelling.{Each, EachWord, each_append, each_as, each_at, words_cover, before_most}
use Rattle.parse.proofs.Spelling.{Printable, spelt, each_printable, arguments_good}
use Rattle.language.specs.declared.command.Call.{Call}
use Rattle.language.specs.declared.command.Call.TheVariants as C
use Rattle.language.specs.declared.command.OnPart.{OnPart}
use Rattle.language.specs.declared.command.OnPart.TheVariants as P
use Rattle.language.specs.declared.command.Command.{Command}
use Rattle.language.specs.declared.command.Command.TheVariants as K
use Rattle.std.specs.Prelude.{Option, Some, None}
use Rattle.language.specs.Vocabulary.{form, vocabulary, among, named}
use Rattle.language.specs.State.{Console, console, lent_memory}
use Rattle.language.specs.Replies.{Said, say, bad, told, is_good, sentence, texted, Reply, reply}
use Rattle.language.specs.Commands.{nth, calls_made, outside, on_part, parts_used, poked, peeked, walked, replayed}
use Rattle.language.specs.Line.{on_lent, obeyed, asked, Answered, saying, by_words, answered}

-- ---- bad lines

-- a reply that calls the line bad, and the state that it leaves
abbrev Harmless : Controller → Memory → Reply → Type 0
Harmless c m r = is_good r.says ≡ false → (r.says ≡ bad) × (r.controller ≡ c) × (r.memory ≡ m)

good_harmless : (c : Controller) (m : Memory) (r : Reply) → is_good r.says ≡ true → Harmless c m r
good_harmless c m r g h = absurd (clash g h)

unchanged : (c : Controller) (m : Memory) (x : Said) → Harmless c m (reply x c m)
unchanged c m (say refusal ns bs) h = absurd (true≢false h)
unchanged c m bad h = (refl, refl, refl)

calls_good : (c : Controller) (m : Memory) (k : Call) (ns : List ℕ) → is_good (calls_made c m k ns).says ≡ true
unfolding calls_made
calls_good c m C.Controller ns = refl
calls_good c m C.CreateCq ns = refl
calls_good c m C.CreateSq ns = refl
calls_good c m C.DeleteCq ns = refl
calls_good c m C.DeleteSq ns = refl
calls_good c m C.Tail ns = refl
calls_good c m C.Head ns = refl
calls_good c m C.Start ns = refl
calls_good c m C.Finish ns = refl

on_part_good : (k : OnPart) (ns p : List ℕ) → is_good (on_part k ns p).0 ≡ true
unfolding on_part
on_part_good P.Fill ns p = refl
on_part_good P.WriteSqe ns p = refl
on_part_good P.ReadSqe ns p = refl
on_part_good P.WriteCqe ns p = refl
on_part_good P.ReadCqe ns p = refl
on_part_good P.Waiting ns p = refl

-- a part that does not lie in the memory that is lent
pick_harmless : (c : Controller) (m : Memory) (t : Bool) (r : Reply) → is_good r.says ≡ true → Harmless c m (pick t (reply bad c m) r)
pick_harmless c m t r g =
    pick_cases (Harmless c m) t (reply bad c m) r (λ e h. (refl, refl, refl)) (λ e. good_harmless c m r g)

poked_harmless : (c : Controller) (m : Memory) (width place : ℕ) (vs : List ℕ) → Harmless c m (poked c m width place vs)
poked_harmless c m width place vs =
    pick_harmless c m (outside m place (width * length vs)) (reply (told (length vs ∷ [])) c (put m place (each (le width) vs))) refl

-- what a bad line leaves
abbrev Quiet : Console → Said × Console → Type 0
Quiet s a = is_good a.0 ≡ false → (a.0 ≡ bad) × (a.1 ≡ s)

lent_quiet : (s : Console) (f : Controller → Memory → Reply) → Harmless s.controller (lent_memory s) (f s.controller (lent_memory s))
    → Quiet s (on_lent s f)
lent_quiet s f k h =
    let r = k h in
    let m : (f s.controller (lent_memory s)).memory ++ drop s.lent s.memory ≡ s.memory =
    ap (λ (x : Memory). x ++ drop s.lent s.memory) r.2 ∙ take-append-drop s.lent s.memory in (
      r.0,
      ap (λ (c : Controller). console c ((f s.controller (lent_memory s)).memory ++ drop s.lent s.memory) s.lent) r.1
          ∙ ap (λ (x : Memory). console s.controller x s.lent) m,
    )

obeyed_quiet : (s : Console) (k : Command) (ns bs : List ℕ) → Quiet s (obeyed s k ns bs)
unfolding obeyed walked replayed
obeyed_quiet s (K.Call k) ns bs =
    lent_quiet s (λ c m. calls_made c m k ns) (good_harmless _ _ _ (calls_good s.controller (lent_memory s) k ns))
obeyed_quiet s (K.OnPart k) ns bs =
    let p = part (lent_memory s) (nth ns 0) (nth ns 1) in
    lent_quiet s (λ c m. parts_used c m k ns) (pick_harmless _ _ (outside (lent_memory s) (nth ns 0) (nth ns 1)) _ (on_part_good k ns p))
obeyed_quiet s (K.Look k) ns bs = λ h. absurd (true≢false h)
obeyed_quiet s K.Lend ns bs = λ h. absurd (true≢false h)
obeyed_quiet s K.Poke ns bs =
    lent_quiet s (λ c m. poked c m 1 (nth ns 0) (drop 1 ns)) (poked_harmless s.controller (lent_memory s) 1 (nth ns 0) (drop 1 ns))
obeyed_quiet s K.Poke64 ns bs =
    lent_quiet s (λ c m. poked c m 8 (nth ns 0) (drop 1 ns)) (poked_harmless s.controller (lent_memory s) 8 (nth ns 0) (drop 1 ns))
obeyed_quiet s K.Peek ns bs =
    lent_quiet s (λ c m. reply (peeked m (nth ns 0) (nth ns 1)) c m) (unchanged s.controller (lent_memory s) _)
obeyed_quiet s K.Walk ns bs = λ h. absurd (true≢false h)
obeyed_quiet s K.Replay ns bs = λ h. absurd (true≢false h)

asked_quiet : (s : Console) (k : Option Command) (ws : List (List ℕ)) → Quiet s (asked s k ws)
unfolding asked
asked_quiet s (Some k) ws =
    let g = arguments_in (form k).largest (form k).rest ws in
    pick_cases (Quiet s) g.good (obeyed s k g.numbers g.bytes) (bad, s)
    (λ e. obeyed_quiet s k g.numbers g.bytes) (λ e h. (refl, refl))
asked_quiet s None ws = λ h. (refl, refl)

abbrev Rejected : Console → ℕ → Answered → Type 0
Rejected s n a = a.good ≡ false → (a.text ≡ bad_line n) × (a.refusal ≡ 0) × (a.console ≡ s)

saying_rejected : (s : Console) (n : ℕ) (w : List ℕ) (a : Said × Console) → Quiet s a → Rejected s n (saying w n a)
saying_rejected s n w a q h = let r = q h in (rw r.0, rw r.0, r.1)

words_rejected : (s : Console) (n : ℕ) (ws : List (List ℕ)) → Rejected s n (by_words s n ws)
unfolding by_words
words_rejected s n [] h = absurd (true≢false h)
words_rejected s n (w ∷ ws) h = saying_rejected s n w (asked s (named w) ws) (asked_quiet s (named w) ws) h

-- "A bad line is answered `? LINE` .. and changes nothing"
pub bad_line_lem : (s : Console) (n : ℕ) (line : List ℕ) → (answered s n line).good ≡ false
    → ((answered s n line).text ≡ bad_line n) × ((answered s n line).refusal ≡ 0) × ((answered s n line).console ≡ s)
unfolding answered
bad_line_lem s n line =
    pick_cases (Rejected s n) (ltb most_bytes (length line)) (saying [] n (bad, s)) (by_words s n (words_of line))
    (λ e h. (refl, refl, refl)) (λ e. words_rejected s n (words_of line))

-- ---- one line

-- a byte that is no LF
abbrev NoLf : ℕ → Type 0
NoLf b = b ≡ 10 → ⊥

-- a text with one LF, its last byte
pub record OneLine (t : List ℕ) : Type 0 where
  pub start : List ℕ
  pub ends : t ≡ start ++ line_end
  pub inside : Each NoLf start

decimal_plain : (k n : ℕ) → Each NoLf (decimal_in k n)
unfolding decimal_in
decimal_plain zero n = tt
decimal_plain (suc k) n =
    pick_cases (Each NoLf) (ltb n 10) ((48 + n) ∷ []) (decimal_in k (n / 10) ++ ((48 + n % 10) ∷ []))
    (λ e. (λ z. omega arith, tt))
    (λ e. each_append NoLf (decimal_in k (n / 10)) ((48 + n % 10) ∷ []) (decimal_plain k (n / 10)) (λ z. omega arith, tt))

each_plain : (f : ℕ → List ℕ) → ((n : ℕ) → Each NoLf (f n)) → (ns : List ℕ) → Each NoLf (each f ns)
unfolding each
each_plain f h [] = tt
each_plain f h (n ∷ ns) = each_append NoLf (f n) (each f ns) (h n) (each_plain f h ns)

numbers_plain : (ns : List ℕ) → Each NoLf (numbers ns)
numbers_plain ns = each_plain next (λ n. (λ z. omega arith, decimal_plain 20 n)) ns

printable_plain : (b : ℕ) → Printable b → NoLf b
printable_plain b h z = omega (arith, h.0)

-- an element of a list, or the one that stands for none
get_d_plain : (l : List ℕ) → Each NoLf l → (i : ℕ) → NoLf (get_or l i 0)
get_d_plain [] h i = λ z. omega arith
get_d_plain (b ∷ l) h zero = h.0
get_d_plain (b ∷ l) h (suc i) = get_d_plain l h.1 i

hex_digit_plain : (d : ℕ) → NoLf (hex_digit d)
unfolding hex_digit
hex_digit_plain d =
    let l = bytes "0123456789abcdef" in
    get_d_plain l (each_as Printable NoLf printable_plain l (each_printable l refl)) d

hex_plain : (bs : List ℕ) → Each NoLf (hex_word bs)
hex_plain [] = tt
hex_plain (b ∷ bs) =
    (λ z. omega arith, each_plain hex_byte (λ x. (hex_digit_plain (x / 16), (hex_digit_plain (x % 16), tt))) (b ∷ bs))

sentence_line : (w ns bs : List ℕ) → Each NoLf w → OneLine (sentence w ns bs)
sentence_line w ns bs h =
    record {
      start = w ++ (numbers ns ++ hex_word bs);
      ends =
          sym
          (append_assoc w (numbers ns ++ hex_word bs) line_end
          ∙ ap (λ (x : List ℕ). w ++ x) (append_assoc (numbers ns) (hex_word bs) line_end));
      inside =
          each_append NoLf w (numbers ns ++ hex_word bs) h (each_append NoLf (numbers ns) (hex_word bs) (numbers_plain ns) (hex_plain bs));
    }

bad_line_line : (n : ℕ) → OneLine (bad_line n)
bad_line_line n = record { start = 63 ∷ next n; ends = refl; inside = (λ z. omega arith, (λ z. omega arith, decimal_plain 20 n)) }

-- ---- the words of the commands

all_spelt : List (String × Command) → Bool
all_spelt [] = true
all_spelt (r ∷ rs) = spelt (bytes r.0) && all_spelt rs

vocabulary_spelt : all_spelt vocabulary ≡ true
unfolding vocabulary all_spelt
vocabulary_spelt = refl

among_printable : (w : List ℕ) (k : Command) (rs : List (String × Command)) → all_spelt rs ≡ true → among w rs ≡ Some k
    → Each Printable w
unfolding among all_spelt
among_printable w k [] h = λ e. let z : ◌≡◌ {A = ℕ} 0 1 = cc in absurd (omega arith)
among_printable w k (r ∷ rs) h =
    let b = and_true (spelt (bytes r.0)) (all_spelt rs) h in
    pick_cases (λ (x : Option Command). x ≡ Some k → Each Printable w) (same w (bytes r.0)) (Some r.1) (among w rs)
    (λ e f. subst (Each Printable) (sym (same_equal w (bytes r.0) e)) (each_printable (bytes r.0) b.0))
    (λ e. among_printable w k rs b.1)

named_printable : (w : List ℕ) (k : Command) → named w ≡ Some k → Each Printable w
unfolding named
named_printable w k e = among_printable w k vocabulary vocabulary_spelt e

-- ---- every answer

texted_line : (w : List ℕ) (n : ℕ) → Each NoLf w → (x : Said) → OneLine (texted w n x)
texted_line w n h (say refusal ns bs) = sentence_line w ns bs h
texted_line w n h bad = bad_line_line n

asked_line : (s : Console) (n : ℕ) (w : List ℕ) (ws : List (List ℕ)) (x : Option Command) → named w ≡ x
    → OneLine (texted w n (asked s x ws).0)
unfolding asked
asked_line s n w ws (Some k) e =
    texted_line w n (each_as Printable NoLf printable_plain w (named_printable w k e)) (asked s (Some k) ws).0
asked_line s n w ws None e = bad_line_line n

words_line : (s : Console) (n : ℕ) (ws : List (List ℕ)) → ((ws ≡ []) × ((by_words s n ws).text ≡ []))
    ⊎ ((ws ≡ [] → ⊥) × OneLine (by_words s n ws).text)
unfolding by_words
words_line s n [] = inl (refl, refl)
words_line s n (w ∷ ws) =
    inr (λ e. let z : ◌≡◌ {A = ℕ} 0 1 = cc in omega arith, asked_line s n w ws (named w) refl)

-- "A line with no word on it gives no answer. Every other line gives exactly one answer line"; one that is too long counts among the others
pub one_answer : (s : Console) (n : ℕ) (line : List ℕ)
    → ((length line ≤ most_bytes) × (words_of line ≡ []) × ((answered s n line).text ≡ []))
    ⊎ (((most_bytes < length line) ⊎ (words_of line ≡ [] → ⊥)) × OneLine (answered s n line).text)
unfolding answered
one_answer s n line =
    ⊎_elim (λ (e : ltb most_bytes (length line) ≡ true). rw e (inr (inl (ltb-true most_bytes (length line) e), bad_line_line n)))
    (λ (e : ltb most_bytes (length line) ≡ false).
    rw e
    (⊎_elim (λ h. inl (ltb-false most_bytes (length line) e, h.0, h.1)) (λ h. inr (inr h.0, h.1)) (words_line s n (words_of line))))
    (bool_cases (ltb most_bytes (length line)))

-- ---- bytes that are not printable

asked_printable : (s : Console) (w : List ℕ) (ws : List (List ℕ)) (x : Option Command) → named w ≡ x → is_good (asked s x ws).0 ≡ true
    → EachWord Printable (w ∷ ws)
unfolding asked
asked_printable s w ws (Some k) e =
    let g = arguments_in (form k).largest (form k).rest ws in
    pick_cases (λ (a : Said × Console). is_good a.0 ≡ true → EachWord Printable (w ∷ ws)) g.good
    (obeyed s k g.numbers g.bytes) (bad, s)
    (λ h f. (named_printable w k e, arguments_good (form k).largest (form k).rest ws h)) (λ h f. absurd (true≢false (sym f)))
asked_printable s w ws None e = λ f. absurd (true≢false (sym f))

words_printable : (s : Console) (n : ℕ) (ws : List (List ℕ)) → (by_words s n ws).good ≡ true → EachWord Printable ws
unfolding by_words
words_printable s n [] = λ h. tt
words_printable s n (w ∷ ws) = asked_printable s w ws (named w) refl

-- a tab, or printable ASCII, the space among it
abbrev pub Plain : ℕ → Type 0
Plain b = (b ≡ 9) ⊎ ((32 ≤ b) × (b ≤ 126))

plain : (b : ℕ) → (is_blank b ≡ true) ⊎ Printable b → Plain b
plain b (inl e) =
    ⊎_elim (λ (f : eqb b 32 ≡ true). let z = eqb-true b 32 f in inr (omega (arith, z), omega (arith, z)))
    (λ (f : eqb b 9 ≡ true). inl (eqb-true b 9 f)) (or-true (eqb b 32) (eqb b 9) e)
plain b (inr h) = inr (omega (arith, h.0), h.1)

-- each byte of a good line, up to its comment, is one of these
pub good_line : (s : Console) (n : ℕ) (line : List ℕ) → (answered s n line).good ≡ true → Each Plain (take (before 35 line) line)
unfolding answered
good_line s n line =
    pick_cases (λ (a : Answered). a.good ≡ true → Each Plain (take (before 35 line) line)) (ltb most_bytes (length line))
    (saying [] n (bad, s)) (by_words s n (words_of line)) (λ e h. absurd (true≢false (sym h)))
    (λ e h.
    each_as (λ b. (is_blank b ≡ true) ⊎ Printable b) Plain plain (take (before 35 line) line)
    (words_cover Printable line (words_printable s n (words_of line) h)))

-- "any other byte that is not printable ASCII outside a comment, makes the line a bad one"
pub unprintable_bad : (s : Console) (n : ℕ) (line : List ℕ) (i : ℕ) → i < before 35 line → (Plain (get_or line i 0) → ⊥)
    → (answered s n line).good ≡ false
unprintable_bad s n line i h p =
    ⊎_elim
    (λ (g : (answered s n line).good ≡ true).
    let k : i < length (take (before 35 line) line) = omega (arith, length-take-le (before 35 line) line (before_most 35 line)) in
    let e = each_at Plain (take (before 35 line) line) i k (good_line s n line g) in
    absurd (p (rw (get_or-take (before 35 line) line i 0 h) at e)))
    (λ (g : (answered s n line).good ≡ false). g)
    (bool_cases (answered s n line).good)
