-- `prp::walk` meets its contract: a refusal before the walk, or what the walk of the pages touched comes to. Assumes nothing.
use Rattle.std.specs.Prelude.{Err}
use mathlib.Core.Path.{◌≡◌, refl, sym, ap, ◌∙◌}
use mathlib.Core.List.{List}
use Prim.Native.Nat.{ℕ}
use lib.ListN.{length}
use Rattle.std.proofs.lemmas.Result.{err_from_is_err_and}
use Rattle.rules.specs.Rules.{first_match}
use Rattle.rules.specs.Refusal.{number}
use Rattle.rules.specs.declared.refusal.Refusal.{Refusal}
use Rattle.rules.proofs.Tables.{settle_refused, settle_accepted}
use Rattle.rules.proofs.Refusals.{number_not_0}
use Rattle.le.specs.Memory.{put}
use Rattle.prp.specs.Pages.{page_size, pages_touched, split, byte_counts}
use Rattle.prp.specs.Walk.{refused, data_pages, before_walk, page_walk}
use Rattle.prp.specs.Answer.{answer, walk_refusal, walk_reads, addresses_of, numbers}
use Rattle.prp.proofs.Touched.{page_low, page_eight}
use Rattle.prp.proofs.Addresses.{pages_length}
use Rattle.prp.proofs.Outcomes.{Accepted}
use Rattle.prp.proofs.Whole.{accepted, is_refused, all_found}
use Rattle.prp.proofs.Numbers.{in_numbers}
use Rattle.prp.proofs.walk.Goals as goal
use Rattle.prp.proofs.walk.Goals.{In_ok-page, After-touched-count}

module _ (m : List ℕ) (prp1 prp2 len k : ℕ) (addresses counts : List ℕ) where
  -- a refusal before the walk
  before :
      (r : Refusal) → number r ≡ first_match (before_walk prp1 len k (length addresses) (length counts))
      → page_walk m prp1 prp2 len k (length addresses) (length counts) ≡ refused (number r)
  unfolding page_walk
  before r is = rw (← is) (settle_refused _ refused _ (number_not_0 r))

  -- where nothing is refused before the walk, it is the whole
  walked :
      {count : ℕ} → 0 ≡ first_match (before_walk prp1 len k (length addresses) (length counts))
      → count ≡ pages_touched (page_size k) prp1 len
      → page_walk m prp1 prp2 len k (length addresses) (length counts) ≡ data_pages (page_size k) m prp1 prp2 count
  unfolding page_walk
  walked none touched = rw (← touched) (settle_accepted _ refused _ (sym none))

  -- what is said of a walk that is refused
  leaves :
      {n : ℕ} → page_walk m prp1 prp2 len k (length addresses) (length counts) ≡ refused n
      → record {
        value : Err n ≡ answer (page_walk m prp1 prp2 len k (length addresses) (length counts));
        addresses_after : addresses
            ≡ put addresses 0 (numbers 8 (addresses_of (page_walk m prp1 prp2 len k (length addresses) (length counts))));
        counts_after : counts ≡ put counts 0 (numbers 4 (byte_counts (page_size k) prp1 len 0));
        refusal : n ≡ walk_refusal m prp1 prp2 len k (length addresses) (length counts);
        reads : 0 ≡ walk_reads m prp1 prp2 len k (length addresses) (length counts);
      }
  unfolding answer addresses_of numbers byte_counts split put
  leaves {n} is =
      let n = in_numbers m prp1 prp2 len k (length addresses) (length counts) (Err n) (rw is refl) in
      record { value = rw is refl; addresses_after = rw is refl; counts_after = refl; refusal = n.0; reads = n.1 }

pub returns-in_err-page : goal.returns-in_err-page
returns-in_err-page c =
    let a = c.args in
    let p = err_from_is_err_and c.from_residual.result c.from_residual.ensures.1 in
    let is = before a.memory.now a.prp1 a.prp2 a.len a.page a.addresses.now a.counts.now _ c.in_err-page.ensures.number in
    rw (p.1, p.2) (leaves a.memory.now a.prp1 a.prp2 a.len a.page a.addresses.now a.counts.now is)

-- what holds of a walk that may begin, by its page size
ready : (c : In_ok-page) → let a = c.args in Accepted a.prp1 a.len c.in_ok-page.page.number (length a.addresses.now) (length a.counts.now)
ready c = rw c.in_ok-page.ensures.page_value (accepted c.in_ok-page.ensures.number)

-- it is the walk of the pages touched
whole :
    (c : After-touched-count) → let a = c.args in
    page_walk a.memory.now a.prp1 a.prp2 a.len a.page (length a.addresses.now) (length a.counts.now)
    ≡ data_pages (page_size c.in_ok-page.page.number) a.memory.now a.prp1 a.prp2 c.touched-count.result
whole c =
    let a = c.args in
    rw c.in_ok-page.ensures.page_value
    (walked a.memory.now a.prp1 a.prp2 a.len a.page a.addresses.now a.counts.now c.in_ok-page.ensures.number
    (rw c.in_ok-page.ensures.page_value at c.touched-count.ensures.0))

pub touched-count-requires : goal.touched-count-requires
touched-count-requires c =
    (ready (goal.at.touched-count-requires c).In_ok-page).right

pub data_pages-requires : goal.data_pages-requires
data_pages-requires c =
    c.touched-count.ensures.1

pub returns-in_err-walked : goal.returns-in_err-walked
returns-in_err-walked c =
    let a = c.args in
    let p = err_from_is_err_and c.from_residual-in_err-walked.result c.from_residual-in_err-walked.ensures.1 in
    let is = whole (goal.at.returns-in_err-walked c).After-touched-count ∙ is_refused _ (c.in_err-walked.ensures a.prp1) in
    rw (p.1, p.2) (leaves a.memory.now a.prp1 a.prp2 a.len a.page a.addresses.now a.counts.now is)

pub store_counts-requires : goal.store_counts-requires
store_counts-requires c =
    let may = ready (goal.at.store_counts-requires c).In_ok-page in
    let touched = c.touched-count.ensures in
    record { some = (may.right.0, touched.1.0); count_value = (touched.0, rw touched.0 may.counts) }

pub store_addresses-requires : goal.store_addresses-requires
store_addresses-requires c =
    let may = ready (goal.at.store_addresses-requires c).In_ok-page in
    let touched = c.touched-count.ensures in
    record {
      room = (touched.1.0, (touched.1.1, rw touched.0 may.addresses));
      found = (all_found _ (c.in_ok-walked.ensures c.args.prp1)).0;
    }

pub returns : goal.returns
returns c =
    let a = c.args in
    let k = c.in_ok-page.page.number in
    let is = c.in_ok-walked.ensures a.prp1 in
    let all = whole (goal.at.returns c).After-touched-count in
    let n =
    in_numbers a.memory.now a.prp1 a.prp2 a.len a.page (length a.addresses.now) (length a.counts.now) _ (is ∙ ap answer (sym all)) in
    -- the pages are found, and as many as are touched
    let f = all_found _ is in
    let some = c.touched-count.ensures.1 in
    let many = f.1 ∙ pages_length (page_size k) a.memory.now a.prp1 a.prp2 (page_low k) (page_eight k 0).0 _ some.0 some.1 f.0 in
    record {
      value = rw all is;
      addresses_after = rw all c.store_addresses.ensures;
      counts_after = rw (many, ← c.in_ok-page.ensures.page_value) c.store_counts.ensures;
      refusal = n.0;
      reads = n.1;
    }
