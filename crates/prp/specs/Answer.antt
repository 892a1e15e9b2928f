-- The answer of the page walk, and what the walk leaves in its buffers.
use Rattle.prp.specs.declared.Walked.{Walked}
use Rattle.std.specs.Prelude.{ℕ, ◌+◌, ◌-◌, ◌*◌, ◌%◌, not, ◌&&◌, List, [], ◌∷◌, ◌++◌, leb, ltb, eqb, length, Result, Ok, Err}
use Rattle.rules.specs.Rules.{pick, Table, first_match, settle}
use Rattle.le.specs.Le.{le}
use Rattle.prp.specs.Pages.{page_size, pages_touched}
use Rattle.prp.specs.Walk.{Walk, refused, found, list, before_walk}

-- the answer for a walk: the number of pages and the number of list entries read, or the refusal
unfoldable pub answer : Walk → Result Walked ℕ
answer (refused number) = Err number
answer (found l n) = Ok (record { pages = length l; reads = n })

-- the same where so many pages were found and so many entries read before the walk
unfoldable pub counted : ℕ → ℕ → Walk → Result Walked ℕ
counted pages reads (refused number) = Err number
counted pages reads (found l n) = Ok (record { pages = pages + length l; reads = reads + n })

-- The paper's number and values for each case of the answer: beside a refusal "every other number in its answer is 0".
abbrev pub refusal_of : Result Walked ℕ → ℕ
refusal_of (Ok w) = 0
refusal_of (Err number) = number

abbrev pub pages_of : Result Walked ℕ → ℕ
pages_of (Ok w) = w.pages
pages_of (Err number) = 0

abbrev pub reads_of : Result Walked ℕ → ℕ
reads_of (Ok w) = w.reads
reads_of (Err number) = 0

-- The refusals from PRP2 on, n pages being touched: PRP2 as a page, PRP2 as the address of a list, and what the list comes to.
abbrev pub prp2_rules : ℕ → List ℕ → ℕ → ℕ → Table
prp2_rules page m prp2 n =
    (eqb n 2 && not (eqb (prp2 % page) 0), 18)
    ∷ (ltb 2 n && not (eqb (prp2 % 8) 0), 18)
    ∷ (ltb 2 n, refusal_of (answer (list page m (n - 1) prp2)))
    ∷ []

-- "page walk 20, 22, then 18 for PRP1, 21, then 18 before 19 at each later pointer or entry in reading order"
unfoldable pub walk_refusal : List ℕ → ℕ → ℕ → ℕ → ℕ → ℕ → ℕ → ℕ
walk_refusal m prp1 prp2 len k address_room count_room =
    first_match (before_walk prp1 len k address_room count_room ++ prp2_rules (page_size k) m prp2 (pages_touched (page_size k) prp1 len))

-- "the number of list entries read, pointers included", for n pages: none up to two pages; else one for each page after the first, and
-- one more, the pointer, where these do not fit into the rest of the list's first page. A second list page holds all that are left.
abbrev pub entries_read : ℕ → ℕ → ℕ → ℕ
entries_read page prp2 n = pick (ltb 2 n) (n - 1 + pick (leb (prp2 % page + 8 * (n - 1)) page) 0 1) 0

unfoldable pub walk_reads : List ℕ → ℕ → ℕ → ℕ → ℕ → ℕ → ℕ → ℕ
walk_reads m prp1 prp2 len k address_room count_room =
    settle (walk_refusal m prp1 prp2 len k address_room count_room) (λ x. 0)
    (entries_read (page_size k) prp2 (pages_touched (page_size k) prp1 len))

-- the addresses that a walk found: none beside a refusal, which "changes nothing"
unfoldable pub addresses_of : Walk → List ℕ
addresses_of (refused number) = []
addresses_of (found l n) = l

-- numbers of w bytes each, one after the other
unfoldable pub numbers : ℕ → List ℕ → List ℕ
numbers w [] = []
numbers w (x ∷ xs) = le w x ++ numbers w xs

-- a walk that is not refused
unfoldable pub Found : Walk → Type 0
Found (refused number) = ⊥
Found (found l reads) = Unit
