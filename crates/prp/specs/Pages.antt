-- Pages: their size, how many of them a transfer touches, and how many of its bytes lie on each.
use Rattle.std.specs.Prelude.{ℕ, zero, suc, ◌+◌, ◌-◌, ◌*◌, ◌/◌, ◌%◌, ◌^◌, min, List, [], ◌∷◌}

-- the longest transfer, in bytes
abbrev pub longest : ℕ
longest = 1048576

-- the most pages that a transfer touches: one more than from the start of a page of the smallest size
abbrev pub most_pages : ℕ
most_pages = longest / 4096 + 1

-- "Page size is 4,096 times 2 to the power 0 to 4": the size for a page size number
unfoldable pub page_size : ℕ → ℕ
page_size k = 4096 * 2 ^ k

-- "the pages touched" by len bytes at prp1: from the page of the first byte to the page of the last
unfoldable pub pages_touched : ℕ → ℕ → ℕ → ℕ
pages_touched page prp1 len = (prp1 + len - 1) / page - prp1 / page + 1

-- how many of len bytes lie on each of n pages, with room for so many of them on the first page
unfoldable pub split : ℕ → ℕ → ℕ → ℕ → List ℕ
split page room len zero = []
split page room len (suc n) = min room len ∷ split page page (len - min room len) n

-- the byte counts of the first n pages of a transfer: the first page has room from the offset of prp1 on
unfoldable pub byte_counts : ℕ → ℕ → ℕ → ℕ → List ℕ
byte_counts page prp1 len n = split page (page - prp1 % page) len n
