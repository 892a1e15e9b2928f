-- Worked examples of arbitration, of turns, levels and the refill, computed from the definitions.
use Rattle.std.specs.Prelude.{ℕ, zero, suc, ◌+◌, ◌^◌, true, false, List, [], ◌∷◌, ◌++◌, ◌≡◌, refl, drop, Option, Some, None}
use Rattle.bits.specs.Bits.{is_set, first, some_below}
use Rattle.arbiter.specs.declared.Remainder.TheVariants.{Left}
use Rattle.arbiter.specs.declared.Level.{Level}
use Rattle.arbiter.specs.declared.Arbiter.{Arbiter}
use Rattle.arbiter.specs.declared.Candidates.{Candidates}
use Rattle.arbiter.specs.Word.{burst_of}
use Rattle.arbiter.specs.Turns.{next_after, turn}
use Rattle.arbiter.specs.Arbiter.{with_levels, with_credit, fresh, ready, level_turn, some_waits, some_ready, refilled_if_due, by_group}
use Rattle.arbiter.specs.Arbiter.{by_level, by_weight, choice, level_answer}

abbrev pub mask_of_ids : List ℕ → ℕ
mask_of_ids [] = 0
mask_of_ids (i ∷ is) = 2 ^ i + mask_of_ids is

-- the candidates, by their class: urgent, high, medium, low
abbrev pub classes : List ℕ → List ℕ → List ℕ → List ℕ → Candidates
classes u h m l =
    record { all = mask_of_ids (u ++ h ++ m ++ l); urgent = mask_of_ids u; high = mask_of_ids h; medium = mask_of_ids m; low = mask_of_ids l }

-- candidates of one class alone
abbrev pub urgents : List ℕ → Candidates
urgents is = classes is [] [] []

abbrev pub highs : List ℕ → Candidates
highs is = classes [] is [] []

abbrev pub mediums : List ℕ → Candidates
mediums is = classes [] [] is []

abbrev pub lows : List ℕ → Candidates
lows is = classes [] [] [] is

abbrev pub times : ℕ → Candidates → List Candidates
times zero c = []
times (suc n) c = c ∷ times n c

abbrev pub follow : (Arbiter → List ℕ) → Arbiter → Option (ℕ × Arbiter) → List ℕ
follow f a (Some (i, b)) = i ∷ f b
follow f a None = 99 ∷ f a

-- the queues that are named one after another, by the candidates at each choice; 99 where nobody is
unfoldable pub named : Arbiter → List Candidates → List ℕ
named a [] = []
named a (c ∷ cs) = follow (λ b. named b cs) a (choice a c)

abbrev pub credits : Arbiter → List ℕ
credits a = a.high.credit ∷ a.medium.credit ∷ a.low.credit ∷ []

-- a level whose turn queue i holds
abbrev pub held : ℕ → ℕ → ℕ → Level
held i left credit = record { group = record { holder = i; remainder = Left left }; credit = credit }

-- the turn of a fresh level with so much credit at a burst, where queue 1 is its candidate
abbrev pub turn_of1 : ℕ → ℕ → ℕ × ℕ × Level
turn_of1 burst credit = level_answer (held 15 0 credit) (level_turn (burst_of burst) (held 15 0 credit) (is_set (mask_of_ids (1 ∷ []))))

-- weights 2, 3 and 4, of which 0, 1 and 4 are left
abbrev pub spent : Arbiter
spent =
    let a = fresh true 0x01020300 in
    with_levels a (with_credit a.high 0) (with_credit a.medium 1) (with_credit a.low 4)

unfoldable pub HighWeights : Type 0
HighWeights =
    -- a weight is its byte plus one, up to 256
    (credits (fresh true 0xFF807F00) ≡ 256 ∷ 129 ∷ 128 ∷ [])
    × (credits (fresh true 0x7FFF8000) ≡ 128 ∷ 256 ∷ 129 ∷ [])
    × (credits (fresh true 0x807FFF00) ≡ 129 ∷ 128 ∷ 256 ∷ [])
    -- a level's full remainder, and what a first serving leaves of it: burst 7 and weight 256, burst 64 and weights 129 and 3
    × (turn_of1 7 256 ≡ (0, 1, held 1 255 255))
    × (turn_of1 6 129 ≡ (0, 1, held 1 63 128))
    × (turn_of1 6 3 ≡ (0, 1, held 1 2 2))
    -- so that under burst 7 a queue of the high, medium or low level is served 256 or 129 times before another has its turn
    × (drop 255 (named (fresh true 0xFF000007) (times 257 (highs (1 ∷ 2 ∷ [])))) ≡ 1 ∷ 2 ∷ [])
    × (drop 128 (named (fresh true 0x00800007) (times 130 (mediums (1 ∷ 2 ∷ [])))) ≡ 1 ∷ 2 ∷ [])
    × (drop 128 (named (fresh true 0x00008007) (times 130 (lows (1 ∷ 2 ∷ [])))) ≡ 1 ∷ 2 ∷ [])

pub high_weights : HighWeights
unfolding HighWeights named choice by_weight by_level by_group refilled_if_due some_waits some_ready level_turn ready some_below turn next_after
    burst_of first is_set
high_weights = (refl, refl, refl, refl, refl, refl, refl, refl, refl)

unfoldable pub Examples : Type 0
Examples =
    -- all three refill, also a level that has credit left, and nothing is added up
    (credits (refilled_if_due spent (highs (1 ∷ []))) ≡ 2 ∷ 3 ∷ 4 ∷ [])
    -- no refill where another level has a candidate and credit, nor where no level has a candidate
    × (credits (refilled_if_due spent (classes [] (1 ∷ []) (2 ∷ []) [])) ≡ 0 ∷ 1 ∷ 4 ∷ [])
    × (credits (refilled_if_due spent (urgents (1 ∷ []))) ≡ 0 ∷ 1 ∷ 4 ∷ [])
    × (named (fresh true 0x00010000) (times 6 (classes [] (1 ∷ []) (2 ∷ []) [])) ≡ 1 ∷ 2 ∷ 2 ∷ 1 ∷ 2 ∷ 2 ∷ [])
    -- burst 2, medium weight 2: the refill for queue 1 leaves queue 2 the rest of its turn; then one credit is left, and queue 4's
    -- turn is as short
    × (named (fresh true 0x00010001)
    (highs (1 ∷ []) ∷ mediums (2 ∷ 4 ∷ []) ∷ highs (1 ∷ []) ∷ times 4 (mediums (2 ∷ 4 ∷ [])))
    ≡ 1 ∷ 2 ∷ 1 ∷ 2 ∷ 4 ∷ 2 ∷ 2 ∷ [])
    -- burst 4: a holder that ran empty goes on with its old remainder, and a choice of nobody changes no turn
    × (named (fresh false 2) (urgents (1 ∷ []) ∷ urgents [] ∷ times 4 (urgents (1 ∷ 2 ∷ []))) ≡ 1 ∷ 99 ∷ 1 ∷ 1 ∷ 1 ∷ 2 ∷ [])
    -- burst 2: under mechanism 1 queue 0 is served first and without a turn, so that queue 1 goes on with its own; and at no cost
    × (named (fresh true 1)
    (times 3 (urgents (0 ∷ 1 ∷ [])) ++ urgents (1 ∷ []) ∷ urgents (0 ∷ 1 ∷ []) ∷ times 2 (urgents (1 ∷ 2 ∷ [])))
    ≡ 0 ∷ 0 ∷ 0 ∷ 1 ∷ 0 ∷ 1 ∷ 2 ∷ [])
    × (choice (fresh true 0) (highs (0 ∷ [])) ≡ Some (0, fresh true 0))
    -- burst 7: a holder is served while it is a candidate; in a level, here of weight 3, while there is credit
    × (named (fresh false 7) (times 3 (urgents (0 ∷ 1 ∷ 2 ∷ [])) ++ times 2 (urgents (1 ∷ 2 ∷ []))) ≡ 0 ∷ 0 ∷ 0 ∷ 1 ∷ 1 ∷ [])
    × (named (fresh true 0x00000207) (times 6 (lows (1 ∷ 2 ∷ []))) ≡ 1 ∷ 1 ∷ 1 ∷ 2 ∷ 2 ∷ 2 ∷ [])
    -- burst 7 is more than any power of two that bits 2:0 could give, and burst 6 is 64
    × (drop 127 (named (fresh false 7) (times 129 (urgents (1 ∷ 2 ∷ [])))) ≡ 1 ∷ 1 ∷ [])
    × (drop 63 (named (fresh false 6) (times 65 (urgents (1 ∷ 2 ∷ [])))) ≡ 1 ∷ 2 ∷ [])

pub examples : Examples
unfolding Examples named choice by_weight by_level by_group refilled_if_due some_waits some_ready level_turn ready some_below turn next_after
    burst_of first is_set
examples = (refl, refl, refl, refl, refl, refl, refl, refl, refl, refl, refl, refl)
