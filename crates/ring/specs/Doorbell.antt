-- Which doorbell values are valid, and the plain checks.
use Rattle.std.specs.Prelude.{ℕ, Bool, not, ◌&&◌, [], ◌∷◌, ◌++◌, ltb, leb, eqb}
use Rattle.rules.specs.Rules.{Table, first_match}
use Rattle.ring.specs.Slots.{wrong_size, distance}

-- "a write of the value held is refused with 10 on either doorbell" (02): among the standard's causes for Invalid Doorbell Write Value is
-- the value written before. This replaces 01's "A write of the value already held is accepted and moves nothing." A tail doorbell holds the
-- old tail, a head doorbell the old head.
abbrev pub differs : ℕ → ℕ → Bool
differs held v = not (eqb v held)

-- "A tail value is valid when it is below the size and its distance from the head is no less than the old tail's", and it is not held.
unfoldable pub valid_tail : ℕ → ℕ → ℕ → ℕ → Bool
valid_tail size head tail v = ltb v size && leb (distance size head tail) (distance size head v) && differs tail v

-- "A head value is valid when it is below the size and its distance from the old head is no more than the tail's", and it is not held.
unfoldable pub valid_head : ℕ → ℕ → ℕ → ℕ → Bool
valid_head size head tail v = ltb v size && leb (distance size head v) (distance size head tail) && differs head v

-- 3; "for .. the plain doorbell checks also a head or tail not below size" (10)
abbrev pub place_rules : ℕ → ℕ → ℕ → Table
place_rules size head tail = (wrong_size size, 3) ∷ (leb size head, 10) ∷ (leb size tail, 10) ∷ []

unfoldable pub place_refusal : ℕ → ℕ → ℕ → ℕ
place_refusal size head tail = first_match (place_rules size head tail)

-- a plain check, from whether the value is valid: "doorbell value invalid" (10) comes last
unfoldable pub checked : ℕ → ℕ → ℕ → Bool → ℕ
checked size head tail valid = first_match (place_rules size head tail ++ ((not valid, 10) ∷ []))

abbrev pub tail_check : ℕ → ℕ → ℕ → ℕ → ℕ
tail_check size head tail v = checked size head tail (valid_tail size head tail v)

abbrev pub head_check : ℕ → ℕ → ℕ → ℕ → ℕ
head_check size head tail v = checked size head tail (valid_head size head tail v)
