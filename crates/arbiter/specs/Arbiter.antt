-- The two arbitration mechanisms: which queue is served next, and the arbiter that is left.
use Rattle.std.specs.Prelude.{ℕ, ◌-◌, min, Bool, ◌&&◌, ◌||◌, not, [], ◌∷◌, ltb, Option, Some, None}
use Rattle.rules.specs.Rules.{pick, first_match}
use Rattle.bits.specs.Bits.{is_set, some_below}
use Rattle.arbiter.specs.declared.Remainder.{Remainder}
use Rattle.arbiter.specs.declared.Remainder.TheVariants.{Left, NoLimit}
use Rattle.arbiter.specs.declared.Group.{Group}
use Rattle.arbiter.specs.declared.Level.{Level}
use Rattle.arbiter.specs.declared.Arbiter.{Arbiter}
use Rattle.arbiter.specs.declared.Candidates.{Candidates}
use Rattle.arbiter.specs.Word.{burst_of, low_weight, medium_weight, high_weight}
use Rattle.arbiter.specs.Turns.{start, turn}

-- ---- the arbiter

-- one part in place of another
abbrev pub with_group : Arbiter → Group → Arbiter
with_group a g =
    record { weighted = a.weighted; word = a.word; group = g; high = a.high; medium = a.medium; low = a.low }

abbrev pub with_levels : Arbiter → Level → Level → Level → Arbiter
with_levels a h m l =
    record { weighted = a.weighted; word = a.word; group = a.group; high = h; medium = m; low = l }

abbrev pub with_credit : Level → ℕ → Level
with_credit l c = record { group = l.group; credit = c }

-- all three levels refill: each credit is its weight; holders and remainders stay
abbrev pub refilled : Arbiter → Arbiter
refilled a =
    with_levels a (with_credit a.high (high_weight a.word)) (with_credit a.medium (medium_weight a.word))
    (with_credit a.low (low_weight a.word))

-- "Credits begin at the weights."
abbrev pub fresh : Bool → ℕ → Arbiter
fresh m w =
    record {
      weighted = m;
      word = w;
      group = start;
      high = record { group = start; credit = high_weight w };
      medium = record { group = start; credit = medium_weight w };
      low = record { group = start; credit = low_weight w };
    }

-- ---- a level

-- one of the 16 queues is a candidate
abbrev pub some : (ℕ → Bool) → Bool
some p = some_below 16 p

-- a level "with a candidate and credit"
unfoldable pub ready : Level → (ℕ → Bool) → Bool
ready l p = some p && ltb 0 l.credit

-- "A level's full remainder is the smaller of burst and credit, so under burst 7 it is the credit and is lowered"
abbrev pub level_full : Remainder → ℕ → Remainder
level_full (Left n) c = Left (min n c)
level_full NoLimit c = Left c

-- "serving costs one credit"
abbrev pub charged : ℕ → Option (ℕ × Group) → Option (ℕ × Level)
charged c (Some (i, g)) = Some (i, record { group = g; credit = c - 1 })
charged c None = None

-- a level with a candidate and credit takes a turn, at the burst b
unfoldable pub level_turn : Remainder → Level → (ℕ → Bool) → Option (ℕ × Level)
level_turn b l p =
    pick (ready l p) (charged l.credit (turn (level_full b l.credit) l.group p)) None

-- ---- the refill

-- "levels have candidates"
unfoldable pub some_waits : Candidates → Bool
some_waits c = some (is_set c.high) || some (is_set c.medium) || some (is_set c.low)

-- a level has a candidate and credit
unfoldable pub some_ready : Arbiter → Candidates → Bool
some_ready a c =
    ready a.high (is_set c.high) || ready a.medium (is_set c.medium) || ready a.low (is_set c.low)

-- "if levels have candidates but none of these has credit, all three refill first"
unfoldable pub refilled_if_due : Arbiter → Candidates → Arbiter
refilled_if_due a c = pick (some_waits c && not (some_ready a c)) (refilled a) a

-- ---- the choice

-- the queue that a turn of the group, or of a level, names, with the arbiter that is left
abbrev pub of_turn : {A : Type 0} → (A → Arbiter) → Option (ℕ × A) → Option (ℕ × Arbiter)
of_turn f (Some (i, x)) = Some (i, f x)
of_turn f None = None

-- the first answer that names a queue
abbrev pub or_else : Option (ℕ × Arbiter) → Option (ℕ × Arbiter) → Option (ℕ × Arbiter)
or_else (Some x) y = Some x
or_else None y = y

-- "A full remainder is the burst, save in a level."
unfoldable pub by_group : Arbiter → (ℕ → Bool) → Option (ℕ × Arbiter)
by_group a p = of_turn (with_group a) (turn (burst_of a.word) a.group p)

-- "levels high (1), medium (2), low (3) .. The first level in that order with a candidate and credit is taken"; "A level's turn is
-- kept while others are served": no other level changes
unfoldable pub by_level : Arbiter → Candidates → Option (ℕ × Arbiter)
by_level a c =
    let b = burst_of a.word in
    or_else (of_turn (λ l. with_levels a l a.medium a.low) (level_turn b a.high (is_set c.high)))
    (or_else (of_turn (λ l. with_levels a a.high l a.low) (level_turn b a.medium (is_set c.medium)))
    (of_turn (λ l. with_levels a a.high a.medium l) (level_turn b a.low (is_set c.low))))

-- "Mechanism 1: SQ 0 first, without turns; then the urgent group (class 0); then levels"
unfoldable pub by_weight : Arbiter → Candidates → Option (ℕ × Arbiter)
by_weight a c =
    pick (is_set c.all 0) (Some (0, a)) (or_else (by_group a (is_set c.urgent)) (by_level (refilled_if_due a c) c))

-- "Mechanism 0: all SQs form one group." Class "has no effect under mechanism 0"
unfoldable pub choice : Arbiter → Candidates → Option (ℕ × Arbiter)
choice a c = pick a.weighted (by_weight a c) (by_group a (is_set c.all))

-- ---- document 01's number and values for each answer

-- 0 and the queue that takes the turn; 12 and no queue
abbrev pub next_answer : Option ℕ → ℕ × ℕ
next_answer (Some i) = (0, i)
next_answer None = (12, 0)

-- of a group, a level or the arbiter: 0, the queue that is served and what is left; 12, no queue and all as it was
abbrev pub turn_answer : {A : Type 0} → A → Option (ℕ × A) → ℕ × ℕ × A
turn_answer x (Some (i, left)) = (0, i, left)
turn_answer x None = (12, 0, x)

abbrev pub level_answer : Level → Option (ℕ × Level) → ℕ × ℕ × Level
level_answer = turn_answer

-- "no SQ is a candidate": none of a group; none of a level, or one without credit
abbrev pub group_refusal : (ℕ → Bool) → ℕ
group_refusal p = first_match ((not (some p), 12) ∷ [])

abbrev pub level_refusal : Level → (ℕ → Bool) → ℕ
level_refusal l p = first_match ((not (ready l p), 12) ∷ [])

abbrev pub chosen_answer : Arbiter → Option (ℕ × Arbiter) → ℕ × ℕ × Arbiter
chosen_answer = turn_answer

-- a candidate is among the queues that the mechanism looks at
unfoldable pub anyone : Arbiter → Candidates → Bool
anyone a c =
    pick a.weighted (is_set c.all 0 || some (is_set c.urgent) || some_waits c) (some (is_set c.all))

-- "no SQ is a candidate"
abbrev pub choice_refusal : Arbiter → Candidates → ℕ
choice_refusal a c = first_match ((not (anyone a c), 12) ∷ [])
