-- The record after the erase of an emptied block is the one of the image then. Assumes nothing.
use Rattle.std.specs.Prelude.{◌≡◌, refl, List, Bool, false, ◌⊎◌, eqb}
use Rattle.std.proofs.Math.Path.{ap, sym}
use Rattle.std.proofs.Common.{subst, ◌∙◌, inl, inr, arith, mod-eq_of_lt, eq-eqb, ne_eqb}
use Rattle.std.proofs.Math.Bool.{true, not}
use Prim.Native.Nat.{ℕ, ◌+◌, ◌-◌, ◌*◌, ◌%◌, ◌<◌, min}
use Rattle.geometry.specs.declared.Geometry.{Geometry}
use Rattle.geometry.specs.Tests.{pick, ◌&◌, and_both}
use Rattle.geometry.specs.Geometry.{page_base}
use Rattle.geometry.specs.Shape.{Shape, shape_core}
use Rattle.geometry.specs.Bounds.{four_bytes}
use Rattle.model.specs.Bytes.{u32_at, erased, seq_at}
use Rattle.model.specs.Count.{count, arg}
use Rattle.model.specs.Image.{pages_of, seq_of, height_of, max_seq, root_of, Chip, chip_of}
use Rattle.model.specs.Tree.{places_of, live}
use Rattle.model.specs.Next.{ahead, next_page}
use Rattle.model.specs.Stores.{erase, apply_store}
use Rattle.theory_counts.specs.Cases.{by_eq, by_test, true_false}
use Rattle.theory_chips.specs.Whole.{some_page}
use Rattle.theory_chips.specs.Sweep.{Sweeping}
use Rattle.theory_chips.specs.Erase.{in_b, own, other, erase_block, erased_frees}
use Rattle.theory_chips.proofs.Erase.{erased_good}
use Rattle.theory_images.specs.Views.{peak_le, arg_new}
use Rattle.theory_images.specs.Page.{views, view_chip}
use Rattle.theory_images.specs.Small.{Small, u32_fits}
use Rattle.theory_images.specs.Held.{Held, er_at, root_height}
use Rattle.theory_images.specs.Writes.{wipe_chip, wipe_held, wipe_max}
use Rattle.open_record.specs.declared.Opened.{Opened}
use Rattle.open_record.specs.Opened.{opened_in}
use Rattle.live_beside.specs.Beside.{Beside}
use Rattle.live_beside.specs.Collect.{next_erased, record_erased}
use Rattle.theory_updates.specs.Beside.{Tracks}
use Rattle.theory_updates.specs.NextErased.{next_erased_lem}

-- ---- numbers
seq_fits : (g : Geometry) (img : List ℕ) (q : ℕ) → Small img → seq_of g img q < four_bytes
unfolding seq_of seq_at
seq_fits g img q s = go (erased g img q)
  where
    go : (t : Bool) → pick t 0 (u32_at img (page_base g q + g.main)) < four_bytes
    go true = omega arith
    go false = u32_fits img (page_base g q + g.main) s

seq_none : (g : Geometry) (img : List ℕ) (q : ℕ) → erased g img q ≡ true → seq_of g img q ≡ 0
unfolding seq_of
seq_none g img q h = rw h refl

-- where the root has the largest number, its page is the one with it
last_root : (g : Geometry) (n : ℕ) (img : List ℕ) → Held g n img → seq_of g img (root_of g n img) ≡ max_seq g n img
    → arg (pages_of g n) (seq_of g img) ≡ root_of g n img
unfolding max_seq
last_root g n img held top =
    let root = root_of g n img in
    let f = held.whole.sound.rooted.fits in
    let numbers : (q : ℕ) → (views g img q).seq ≡ seq_of g img q = λ q. ap (λ (x : Chip). x.seq q) (view_chip g n img) in
    let some = (held.r1 root f.0).some (er_at g n img root ∙ f.1) in
    arg_new (pages_of g n) (seq_of g img) root f.0 (λ j q d.
    let y = peak_le (pages_of g n) (seq_of g img) j q in
    by_eq (seq_of g img j) (seq_of g img root)
    (λ e. absurd (by_test (erased g img j)
    (λ t. let z = seq_none g img j t in let u = numbers root in omega (arith, z, e, u, some))
    (λ t. d (held.r3.differ j root q f.0 (er_at g n img j ∙ t) (er_at g n img root ∙ f.1) (numbers j ∙ e ∙ sym (numbers root))))))
    (λ e. omega (arith, y, e, top)))

-- ---- the record
module _ (g : Geometry) (shape : Shape g) (n : ℕ) (img : List ℕ) (held : Held g n img)
    (v : ℕ) (v-in : v < n) (sw : Sweeping g n v 0 (chip_of g n img))
    (o : Opened) (h : Beside) (t : Tracks g n o img h) where
  abbrev c : Chip
  c = chip_of g n img

  abbrev then : List ℕ
  then = apply_store g (erase v) img

  dead : (j : ℕ) → j < g.pages → live (places_of c) (g.pages * v + j) ≡ false
  dead j z = sw.dead j (omega (arith, z))

  chip_is : chip_of g n then ≡ erase_block g v c
  chip_is = wipe_chip g (shape_core g shape) n img held v v-in dead

  held_then : Held g n then
  held_then = wipe_held g (shape_core g shape) n img held v v-in dead (erased_good g shape n v v-in c sw)

  -- the root stands outside the block
  outside : in_b g.pages v c.root ≡ false
  unfolding erase_block
  outside = by_test (in_b g.pages v c.root)
      (λ e. absurd (true_false ((erase_block g v c).er c.root) (rw e refl)
      (subst (λ (d : Chip). d.er d.root ≡ false) chip_is held_then.whole.sound.rooted.fits.1)))
      (λ e. e)

  er_own : (j : ℕ) → j < g.pages → erased g then (g.pages * v + j) ≡ true
  unfolding erase_block
  er_own j z = ap (λ (d : Chip). d.er (g.pages * v + j)) chip_is
      ∙ ap (λ b. pick b true (c.er (g.pages * v + j))) (own g.pages v j z)

  er_other : (b j : ℕ) → j < g.pages → (b ≡ v → ⊥) → erased g then (g.pages * b + j) ≡ erased g img (g.pages * b + j)
  unfolding erase_block
  er_other b j z d = ap (λ (d : Chip). d.er (g.pages * b + j)) chip_is
      ∙ ap (λ e. pick e true (c.er (g.pages * b + j))) (other g.pages v b j z d)

  frees : count (pages_of g n) (erased g then) ≡ count (pages_of g n) c.er + g.pages
  frees = ap (λ (d : Chip). count (pages_of g n) d.er) chip_is ∙ erased_frees g shape n v v-in c sw

  root_then : root_of g n then ≡ h.root
  unfolding erase_block
  root_then = ap (λ (d : Chip). d.root) chip_is ∙ sym t.root_is

  height_then : height_of g then (root_of g n then) ≡ o.height
  unfolding erase_block
  height_then =
      let a = ap (λ (d : Chip). d.level) chip_is in
      let b = t.level_is in
      let e = t.height_is in
      let f = root_height g n then in
      let k = held_then.r4 in
      omega (arith, a, b, e, f, k)

  -- the root's page has the largest number
  module _ (top : seq_of g img h.root ≡ h.most) where
    number_then_lem : seq_of g then (root_of g n then) ≡ h.most
    unfolding erase_block
    number_then_lem = ap (λ (d : Chip). d.seq d.root) chip_is ∙ ap (λ b. pick b 0 (c.seq c.root)) outside
        ∙ ap (seq_of g img) (sym t.root_is) ∙ top

    most_then : max_seq g n then ≡ h.most
    unfolding max_seq
    most_then =
        let a = wipe_max g (shape_core g shape) n img held v v-in dead in
        let b = peak_le (pages_of g n) (seq_of g then) (root_of g n then) held_then.whole.sound.rooted.fits.0 in
        let e = number_then_lem in
        let f = t.most_is in
        omega (arith, a, b, e, f)

    small : h.most % four_bytes ≡ h.most
    small = mod-eq_of_lt (subst (λ m. m < four_bytes) top (seq_fits g img h.root held.bytes))

    next_then : next_erased g.pages n (erased g then) h.root h.next ≡ next_page g.pages n
        (ahead g n (chip_of g n then))
    next_then =
        let last : arg (pages_of g n) (seq_of g then) ≡ h.root =
        last_root g n then held_then (number_then_lem ∙ sym most_then) ∙ root_then in
        let pages = some_page g (shape_core g shape) in
        (λ i. next_erased g.pages n (erased g then) (sym last i) (t.next_is i))
        ∙ next_erased_lem g.pages n v (ahead g n c) (ahead g n (chip_of g n then)) pages held.whole.r2 held_then.whole.r2 sw.full er_own er_other
        (omega (arith, frees, pages))

    goes_on : opened_in g n then ≡ record {
      root = h.root;
      number = h.most % four_bytes;
      most = h.most % four_bytes;
      height = o.height;
      next = min (pages_of g n) (next_erased g.pages n (erased g then) h.root h.next);
      erased = o.erased - (h.most - o.most) + g.pages;
    }
    unfolding opened_in
    goes_on =
        let number_is_lem = number_then_lem ∙ sym small in
        let most_is = most_then ∙ sym small in
        let erased_is : count (pages_of g n) (erased g then) ≡ o.erased - (h.most - o.most) + g.pages = let a =
        t.sum_is in let b = t.grown in
        omega (arith, frees, a, b) in
        λ i. record {
          root = root_then i;
          number = number_is_lem i;
          most = most_is i;
          height = height_then i;
          next = min (pages_of g n) (sym next_then i);
          erased = erased_is i;
        }

  -- it has, where the record is not taken anew
  has_top : (eqb h.most o.most & not (eqb o.number o.most)) ≡ false → seq_of g img h.root ≡ h.most
  has_top e = go t.crest
    where
      go : ((h.most ≡ o.most) × (seq_of g img h.root ≡ o.number)) ⊎ (seq_of g img h.root ≡ h.most)
          → seq_of g img h.root ≡ h.most
      go (inr z) = z
      go (inl z) = by_eq o.number o.most (λ y. z.1 ∙ y ∙ sym z.0)
          (λ y. absurd (true_false _ (and_both _ _ (eq-eqb h.most o.most z.0) (ap not (ne_eqb o.number o.most y))) e))

  pub record_erased_lem : record_erased g n o h (apply_store g (erase v) img) ≡ opened_in g n (apply_store g (erase v) img)
  unfolding record_erased
  record_erased_lem = by_test (eqb h.most o.most & not (eqb o.number o.most)) (λ e. rw e refl) (λ e. rw e (sym (goes_on (has_top e))))
