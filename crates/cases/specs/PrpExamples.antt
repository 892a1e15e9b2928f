-- Worked examples of the page walk, computed from the definitions.
use Rattle.std.specs.Prelude.{ℕ, ◌+◌, ◌-◌, ◌*◌, ◌/◌, ◌≡◌, refl, List, [], ◌∷◌, ◌++◌, replicate}
use Rattle.rules.specs.Rules.{settle}
use Rattle.le.specs.Le.{le, le_at}
use Rattle.prp.specs.Pages.{page_size, pages_touched, split, byte_counts}
use Rattle.prp.specs.Walk.{Walk, refused, found, after, in_memory, last_of_page, read_entry, list, data_pages, before_walk, page_walk}
use Rattle.prp.specs.Answer.{answer, refusal_of, pages_of, reads_of}

-- a memory of 12,288 bytes: two list entries at 1000h, one at 2FF0h, and the last at 2FF8h
abbrev memory : ℕ → List ℕ
memory last = replicate 0x1000 0 ++ le 8 0x7000 ++ le 8 0x8000 ++ replicate 0x1FE0 0 ++ le 8 0x5000 ++ le 8 last

-- the walk of so many bytes at 4000h, with the list at 2FF0h and pages of 4,096 bytes
abbrev walked : ℕ → ℕ → Walk
walked last len = page_walk (memory last) 0x4000 0x2FF0 len 0 32 16

-- "List at 2FF0h with N = 3: 2 read, no pointer." With N = 4 the entry at 2FF8h points to the list at 1000h. A pointer that has
-- an offset and leads out of memory is refused for its offset, and one with offset 0 for its place.
pub examples :
    (walked 0x1000 12288 ≡ found (0x4000 ∷ 0x5000 ∷ 0x1000 ∷ []) 2)
    × (walked 0x1000 16384 ≡ found (0x4000 ∷ 0x5000 ∷ 0x7000 ∷ 0x8000 ∷ []) 4)
    × (pages_of (answer (walked 0x1000 12288)) ≡ 3)
    × (reads_of (answer (walked 0x1000 12288)) ≡ 2)
    × (refusal_of (answer (walked 0x900008 16384)) ≡ 18)
    × (refusal_of (answer (walked 0x900000 16384)) ≡ 19)
unfolding answer page_walk settle before_walk data_pages list read_entry last_of_page in_memory after pages_touched page_size le le_at
examples = (refl, refl, refl, refl, refl, refl)

-- A memory of one list page: its first two entries name the pages of data 5 and 6, and its last entry, of which so many bytes are in
-- memory, is a pointer.
abbrev list_page : ℕ → ℕ → ℕ → List ℕ
list_page page width next = le 8 (5 * page) ++ le 8 (6 * page) ++ replicate (page - 24) 0 ++ le width next

-- the walk of n pages from page 3 on, with the page size number k
abbrev pages : ℕ → List ℕ → ℕ → ℕ → Walk
pages k m prp2 n = page_walk m (3 * page_size k) prp2 (n * page_size k) k (8 * n) (4 * n)

-- One page, whatever PRP2 is; two; and three, from the list's last place on: by its pointer, with the pointer half a page off, and with
-- its last byte behind the memory. An entry half a page off, a list address of 4, and no list at all. Half a page is a multiple of
-- 4,096 in all sizes but the first. And the bytes on three pages, of which the first holds 4 and the last 4.
abbrev Sized : ℕ → Type 0
Sized k =
    let page = page_size k in
    (pages k [] 1 1 ≡ found (3 * page ∷ []) 0)
    × (pages k [] (7 * page) 2 ≡ found (3 * page ∷ 7 * page ∷ []) 0)
    × (pages k [] (page / 2) 2 ≡ refused 18)
    × (pages k (list_page page 8 0) (page - 8) 3 ≡ found (3 * page ∷ 5 * page ∷ 6 * page ∷ []) 3)
    × (pages k (list_page page 8 (page / 2)) (page - 8) 3 ≡ refused 18)
    × (pages k (list_page page 7 0) (page - 8) 3 ≡ refused 19)
    × (pages k (le 8 (page / 2)) 0 3 ≡ refused 18)
    × (pages k [] 4 3 ≡ refused 18)
    × (pages k [] 0 3 ≡ refused 19)
    × (byte_counts page (4 * page - 4) (page + 8) (pages_touched page (4 * page - 4) (page + 8)) ≡ 4 ∷ page ∷ 4 ∷ [])

pub sizes : Sized 0 × Sized 1 × Sized 2 × Sized 3 × Sized 4
unfolding page_walk settle before_walk data_pages list read_entry last_of_page in_memory after byte_counts split pages_touched page_size le le_at
sizes = (
  (refl, refl, refl, refl, refl, refl, refl, refl, refl, refl),
  (refl, refl, refl, refl, refl, refl, refl, refl, refl, refl),
  (refl, refl, refl, refl, refl, refl, refl, refl, refl, refl),
  (refl, refl, refl, refl, refl, refl, refl, refl, refl, refl),
  (refl, refl, refl, refl, refl, refl, refl, refl, refl, refl),
)

-- the place 4,088 is the last of a list page in the first size alone: three pages from there on, without a pointer
abbrev Inner : ℕ → Type 0
Inner k =
    let page = page_size k in
    pages k (replicate 4088 0 ++ le 8 (5 * page) ++ le 8 (6 * page)) 4088 3 ≡ found (3 * page ∷ 5 * page ∷ 6 * page ∷ []) 2

pub inner : Inner 1 × Inner 2 × Inner 3 × Inner 4
unfolding page_walk settle before_walk data_pages list read_entry last_of_page in_memory after pages_touched page_size le le_at
inner = (refl, refl, refl, refl)
