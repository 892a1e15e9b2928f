-- The page walk: the addresses of the pages that a transfer touches, and how many list entries are read to find them.
use Rattle.std.specs.Prelude.{ℕ, zero, suc, ◌+◌, ◌-◌, ◌*◌, ◌%◌, List, [], ◌∷◌, ◌++◌, Bool, not, ◌&&◌, ◌||◌, length, leb, ltb, eqb}
use Rattle.rules.specs.Rules.{pick, Table, first_match, settle, outside_of}
use Rattle.le.specs.Le.{le_at}
use Rattle.prp.specs.Pages.{longest, page_size, pages_touched}

-- What a walk comes to: a refusal's number; or the pages' addresses, in order, and "the number of list entries read, pointers
-- included".
pub data Walk : Type 0 where
  refused : ℕ → Walk
  found : List ℕ → ℕ → Walk

-- the walk w where the test holds, else the refusal
abbrev pub demand : Bool → ℕ → Walk → Walk
demand test number w = pick test w (refused number)

-- the walk w, with the addresses l found and n list entries read before it
unfoldable pub after : List ℕ → ℕ → Walk → Walk
after l n (refused number) = refused number
after l n (found l' n') = found (l ++ l') (n + n')

-- the 8 bytes at a lie wholly in memory
unfoldable pub in_memory : List ℕ → ℕ → Bool
in_memory m a = leb (a + 8) (length m)

-- a is the place of the last entry of a list page
unfoldable pub last_of_page : ℕ → ℕ → Bool
last_of_page page a = eqb (a % page) (page - 8)

-- The list entry at a is read: 19 where it does not lie wholly in memory. "List entries have offset 0": 18 where its value has
-- another. Else it counts as read, and next goes on with its value. "18 before 19 at each later pointer or entry in reading order": a
-- value is tested (18) before it is followed, and 19 is about the place that the value before it led to.
unfoldable pub read_entry : ℕ → List ℕ → ℕ → (ℕ → Walk) → Walk
read_entry page m a next =
    demand (in_memory m a) 19 (demand (eqb (le_at 8 m a % page) 0) 18 (after [] 1 (next (le_at 8 m a))))

-- The list from the entry at a on, with n pages of data left. "The last entry of a list page points to the next list, at offset
-- 0, exactly if more than one page of data is left. The walk ends at the entry that covers the last byte." The next list's
-- first entry is no pointer, since a list page has more than one.
unfoldable pub list : ℕ → List ℕ → ℕ → ℕ → Walk
list page m zero a = found [] 0
list page m (suc n) a =
    let data_page : ℕ → Walk = λ b. read_entry page m b (λ address. after (address ∷ []) 0 (list page m n (b + 8))) in
    pick (last_of_page page a && ltb 1 (suc n)) (read_entry page m a data_page) (data_page a)

-- "N = 1 ignores PRP2; N = 2 takes PRP2 as a page with offset 0; N of 3 or more takes it as a list address, a multiple of 8,
-- any offset in its page."
unfoldable pub data_pages : ℕ → List ℕ → ℕ → ℕ → ℕ → Walk
data_pages page m prp1 prp2 n =
    pick (eqb n 1) (found (prp1 ∷ []) 0)
    (pick (eqb n 2) (demand (eqb (prp2 % page) 0) 18 (found (prp1 ∷ prp2 ∷ []) 0))
    (demand (eqb (prp2 % 8) 0) 18 (after (prp1 ∷ []) 0 (list page m (n - 1) prp2))))

-- The refusals before the walk: "page walk 20, 22, then 18 for PRP1, 21", the last "if either buffer has room for fewer"
-- than N addresses of 8 bytes and N byte counts of 4.
unfoldable pub before_walk : ℕ → ℕ → ℕ → ℕ → ℕ → Table
before_walk prp1 len k address_room count_room =
    let n = pages_touched (page_size k) prp1 len in
    (outside_of 1 longest len, 20)
    ∷ (ltb 4 k, 22)
    ∷ (not (eqb (prp1 % 4) 0), 18)
    ∷ (ltb address_room (8 * n) || ltb count_room (4 * n), 21)
    ∷ []

-- the whole walk, of len bytes with the page size number k, into buffers with so much room
unfoldable pub page_walk : List ℕ → ℕ → ℕ → ℕ → ℕ → ℕ → ℕ → Walk
page_walk m prp1 prp2 len k address_room count_room =
    settle (first_match (before_walk prp1 len k address_room count_room)) refused
    (data_pages (page_size k) m prp1 prp2 (pages_touched (page_size k) prp1 len))
