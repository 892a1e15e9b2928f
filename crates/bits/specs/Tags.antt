-- The mask of free tags. There are 64 tags, 0 to 63.
use Rattle.std.specs.Prelude.{ℕ, ◌+◌, ◌-◌, ◌^◌, Bool, ◌&&◌, not, [], ◌∷◌, ltb, leb, Option, Some, None}
use Rattle.rules.specs.Rules.{pick, first_match}
use Rattle.bits.specs.Bits.{is_set, first, count}

-- a tag is free where its bit is set
abbrev pub is_free : ℕ → ℕ → Bool
is_free = is_set

abbrev pub free_count : ℕ → ℕ
free_count m = count (is_free m) 0 64

-- the lowest free tag, and 64 where none is free
abbrev pub lowest : ℕ → ℕ
lowest m = first (is_free m) 0 64

-- the lowest free tag above t, and 64 where none is
abbrev pub lowest_above : ℕ → ℕ → ℕ
lowest_above m t = first (is_free m) (t + 1) (63 - t)

-- the mask without tag t, which is free
abbrev pub without : ℕ → ℕ → ℕ
without m t = m - 2 ^ t

-- "the tag is the lowest that is free"
unfoldable pub taken_one : ℕ → Option (ℕ × ℕ)
taken_one m = let t = lowest m in pick (ltb t 64) (Some (t, without m t)) None

-- "A pair takes the two lowest free, the first half the lower."
unfoldable pub taken_two : ℕ → Option (ℕ × ℕ × ℕ)
taken_two m =
    let t = lowest m in
    let u = lowest_above m t in
    pick (leb 2 (free_count m)) (Some (t, u, without (without m t) u)) None

-- "a freed tag is used again": its bit is set, where it was not
unfoldable pub given_back : ℕ → ℕ → ℕ
given_back m t = pick (ltb t 64 && not (is_free m t)) (m + 2 ^ t) m

-- ---- document 01's number and values for each answer

-- 0, the tag and the mask that is left; 13, no tag and the mask as it was
abbrev pub one_answer : ℕ → Option (ℕ × ℕ) → ℕ × ℕ × ℕ
one_answer m (Some (t, left)) = (0, t, left)
one_answer m None = (13, 0, m)

-- 0, both tags and the mask that is left; 13, no tags and the mask as it was
abbrev pub two_answer : ℕ → Option (ℕ × ℕ × ℕ) → ℕ × ℕ × ℕ × ℕ
two_answer m (Some (t, u, left)) = (0, t, u, left)
two_answer m None = (13, 0, 0, m)

-- "too few free tags": n are needed
abbrev pub tag_refusal : ℕ → ℕ → ℕ
tag_refusal n m = first_match ((ltb (free_count m) n, 13) ∷ [])
