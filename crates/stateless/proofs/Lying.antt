-- Laws of parts of the memory, in it or not. Assumes nothing.
use mathlib.Core.Path.{◌≡◌, refl, ap, ◌∙◌}
use mathlib.Core.Bool.{true, false}
use mathlib.Core.List.{List, [], ◌++◌}
use Prim.Native.Nat.{ℕ, ◌-◌, ◌≤◌, ◌<◌}
use lib.ListN.{length, take, drop, get_or}
use lib.Seq.{drop-drop}
use borrow.Author.Tests.{lt-ltb, le-ltb}
use Rattle.le.specs.Memory.{Memory, part, put}
use Rattle.controller.specs.Controller.{Controller}
use Rattle.language.specs.declared.command.OnPart.{OnPart}
use Rattle.language.specs.declared.command.OnPart.TheVariants as P
use Rattle.language.specs.Vocabulary.{on_part_form}
use Rattle.language.specs.Replies.{Said, say, bad, reply}
use Rattle.language.specs.Commands.{nth, outside, on_part, parts_used, peeked}
use Rattle.stateless.specs.Leaving.{firsts}

module _ (m : Memory) (place n : ℕ) where
  pub begins_out : length m < place → outside m place n ≡ true
  begins_out h = rw (lt-ltb (length m) place h)

  pub ends_out : place ≤ length m → length m - place < n → outside m place n ≡ true
  ends_out h k = rw (le-ltb (length m) place h, lt-ltb (length m - place) n k)

  pub lies_in : place ≤ length m → n ≤ length m - place → outside m place n ≡ false
  lies_in h k = rw (le-ltb (length m) place h, le-ltb (length m - place) n k)

-- a part, and what the memory is with bytes in its place, as the borrow checker has them
pub as_part : (m : Memory) (place n e : ℕ) → e ≡ n → take e (drop place m) ≡ part m place n
unfolding part
as_part m place n e q = ap (λ (k : ℕ). take k (drop place m)) q

pub as_put : (m : Memory) (place e : ℕ) (b : List ℕ) → e ≡ length b → take place m ++ (b ++ drop e (drop place m)) ≡ put m place b
unfolding put
as_put m place e b q =
    ap (λ (l : List ℕ). take place m ++ (b ++ l)) (ap (λ (k : ℕ). drop k (drop place m)) q ∙ drop-drop (length b) place m)

-- a command on a part has a place and a room
pub place_first : (k : OnPart) (l : List ℕ) → nth (firsts (length (on_part_form k)) 0 l) 0 ≡ get_or l 0 0
place_first P.Fill l = refl
place_first P.WriteSqe l = refl
place_first P.ReadSqe l = refl
place_first P.WriteCqe l = refl
place_first P.ReadCqe l = refl
place_first P.Waiting l = refl

pub room_second : (k : OnPart) (l : List ℕ) → nth (firsts (length (on_part_form k)) 0 l) 1 ≡ get_or l 1 0
room_second P.Fill l = refl
room_second P.WriteSqe l = refl
room_second P.ReadSqe l = refl
room_second P.WriteCqe l = refl
room_second P.ReadCqe l = refl
room_second P.Waiting l = refl

-- ---- what a command on a part comes to

module _ (c : Controller) (m : Memory) (k : OnPart) (l : List ℕ) (s : Said) where
  abbrev ns : List ℕ
  ns = firsts (length (on_part_form k)) 0 l

  -- from is the place and e the room, as the borrow checker has them
  pub part_used : (from e : ℕ) (b : List ℕ) → outside m (get_or l 0 0) (get_or l 1 0) ≡ false → from ≡ get_or l 0 0 → e ≡ get_or l 1 0
      → e ≡ length b → (s, b) ≡ on_part k ns (take e (drop from m))
      → reply s c (take from m ++ (b ++ drop e (drop from m))) ≡ parts_used c m k ns
  part_used from e b o f q u w =
      rw (place_first k l, room_second k l, o, f, ← as_part m (get_or l 0 0) (get_or l 1 0) e q, ← (rw f at w))
      (ap (reply s c) (as_put m (get_or l 0 0) e b u))

-- ---- what is peeked at

module _ (m : Memory) (place n : ℕ) where
  pub peek_outside : outside m place n ≡ true → peeked m place n ≡ bad
  peek_outside h = rw h

  pub peek_inside : (from e : ℕ) → outside m place n ≡ false → from ≡ place → e ≡ n
      → peeked m place n ≡ say 0 [] (take e (drop from m))
  peek_inside from e o f q = rw (o, f, as_part m place n e q)
