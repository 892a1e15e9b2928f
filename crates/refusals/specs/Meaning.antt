-- What refusal numbers mean, in the words of document 01's table, and from 30 on of document 02's tickets.
use Rattle.std.specs.Prelude.{ℕ, max, Bool, ◌||◌, List, [], ◌∷◌, eqb}
use Prim.Native.String.{String}
use Rattle.rules.specs.Rules.{pick}
use Rattle.print.specs.Text.{bytes}

-- a refusal number and what it means
abbrev pub Row : Type 0
Row = ℕ × List ℕ

abbrev row : ℕ → String → Row
row n text = (n, bytes text)

-- the numbers that a call of the set-up or a record can have
unfoldable pub meanings : List Row
meanings =
    row 1 "the queue's own id above 15"
    ∷ row 2 "queue exists already"
    ∷ row 3 "size outside 2 to 1,024 entries"
    ∷ row 4 "base not a multiple of 4,096"
    ∷ row 5 "a ring does not lie wholly in the memory given"
    ∷ row 6 "the new ring shares a byte with an existing ring"
    ∷ row 7 "the SQ names a CQ that does not exist; or SQ 0 a CQ other than 0; or another SQ the CQ 0"
    ∷ row 8 "class number above 3"
    ∷ row 9 "queue does not exist"
    ∷ row 10 "doorbell value invalid"
    ∷ row 11 "the SQ is marked"
    ∷ row 12 "no SQ is a candidate"
    ∷ row 13 "too few free tags"
    ∷ row 14 "tag not outstanding"
    ∷ row 15 "status above 32,767"
    ∷ row 16 "second half finished while its first half is outstanding"
    ∷ row 17 "the CQ has no free slot"
    ∷ row 21 "a result or entry buffer too short"
    ∷ row 23 "mechanism other than 0 or 1"
    ∷ row 30 "an unknown call or a nonzero spare byte"
    ∷ row 31 "a last short record"
    ∷ row 32 "the start would need a number above 18,446,744,073,709,551,614"
    ∷ row 33 "the SQ has outstanding commands"
    ∷ row 34 "an SQ names the CQ"
    ∷ row 35 "id 0 is never deleted"
    ∷ []

-- the text of a number in rows
abbrev pub text_in : List Row → ℕ → List ℕ
text_in [] n = bytes "see the table of refusals"
text_in (r ∷ rs) n = pick (eqb n r.0) r.1 (text_in rs n)

-- what a refusal number means
unfoldable pub meaning : ℕ → List ℕ
meaning n = text_in meanings n

-- the largest number of rows
abbrev pub largest_in : List Row → ℕ
largest_in [] = 0
largest_in (r ∷ rs) = max r.0 (largest_in rs)

-- the largest number that any call or record is refused with
unfoldable pub largest : ℕ
largest = largest_in meanings

-- a number that is a record's own, which then asks for no call: "30 for an unknown call or a nonzero spare byte, and 31, before 30, for
-- a last short record"
abbrev pub is_of_record : ℕ → Bool
is_of_record n = eqb n 30 || eqb n 31
