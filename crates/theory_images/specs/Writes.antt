-- One store: a page at the next place with the next number, with a root or without; a block without live pages erased.
-- What is held stays held. Assumes nothing.
use Rattle.std.specs.Prelude.{◌≡◌, List, true, false, ℕ, suc, ◌+◌, ◌-◌, ◌*◌, ◌<◌, ◌≤◌, eqb}
use Rattle.std.proofs.Math.Path.{refl, ap, sym, subst}
use Rattle.std.proofs.Common.{◌∙◌, arith, eq-eqb, ne_eqb}
use Rattle.geometry.specs.declared.Geometry.{Geometry}
use Rattle.geometry.specs.declared.Entry.{Entry}
use Rattle.geometry.specs.Tests.{pick}
use Rattle.geometry.specs.Shape.{Core}
use Rattle.model.specs.Count.{count, peak, arg}
use Rattle.model.specs.Image.{pages_of, max_seq, Chip, chip_of}
use Rattle.model.specs.Tree.{places, places_of, live}
use Rattle.model.specs.Next.{first_in, ahead, next_block, next_page, after, onward}
use Rattle.model.specs.Page.{built}
use Rattle.model.specs.Stores.{Store, program, erase, apply_store}
use Rattle.model.specs.Legal.{Legal}
use Rattle.theory_counts.specs.Cases.{by_test, true_false}
use Rattle.theory_chips.specs.Next.{next_found, next_in}
use Rattle.theory_chips.specs.Whole.{some_page, Whole}
use Rattle.theory_chips.specs.Erase.{in_b, range, erase_block}
use Rattle.theory_images.specs.Views.{View, peak_le, arg_new, Views, top_of, root_at, laid, beside, max_put}
use Rattle.theory_images.specs.Page.{views, view_chip, view_max}
use Rattle.theory_images.specs.Built.{Parts, built_view, length_built, built_seq}
use Rattle.theory_images.specs.Stores.{length_store, erase_chip, erase_r1, erase_r3, erase_r4, erase_max}
use Rattle.theory_images.specs.Small.{store_small}
use Rattle.theory_images.specs.Held.{Held}

-- the store at the next page, with the next number
unfoldable pub next_store : Geometry → ℕ → ℕ → (ℕ → List Entry) → List ℕ → Store
next_store g n h parts img = program (next_page g.pages n (ahead g n (chip_of g n img))) (built g (suc (max_seq g n img)) h parts)

-- the largest number after a page with the next one
pub max_new : (t : ℕ) (v : Views) (p : ℕ) (w : View) → p < t → w.seq ≡ suc (top_of t v)
    → top_of t (laid v p w) ≡ suc (top_of t v)
unfolding top_of
max_new t v p w h s =
    let up = max_put t v p w (omega (arith, s)) in
    let here = peak_le t (λ q. (laid v p w q).seq) p h in
    let e : (laid v p w p).seq ≡ w.seq = rw (eq-eqb p p refl) refl in
    omega (arith, up, here, e, s)

-- a page with the next number has the largest one from then on
pub ahead_beside : (g : Geometry) (n : ℕ) (c : Chip) (p : ℕ) (w : View) → p < pages_of g n → w.seq ≡ suc (peak (pages_of g n) c.seq)
    → ahead g n (beside c p w) ≡ onward p (ahead g n c)
unfolding beside
ahead_beside g n c p w h s = λ i. record { er = after p c.er; last = last_is i }
  where
    last_is : arg (pages_of g n) (λ q. pick (eqb q p) w.seq (c.seq q)) ≡ p
    last_is = arg_new (pages_of g n) (λ q. pick (eqb q p) w.seq (c.seq q)) p h (λ j q d.
        let y = peak_le (pages_of g n) c.seq j q in
        rw (ne_eqb j p d, eq-eqb p p refl) (omega (arith, y, s)))

module _ (g : Geometry) (core : Core g) (n : ℕ) (img : List ℕ) (held : Held g n img) where
  abbrev t : ℕ
  t = pages_of g n

  abbrev c : Chip
  c = chip_of g n img

  module _ (free : 1 ≤ count t c.er) where
    abbrev N : ℕ
    N = next_page g.pages n (ahead g n c)

    pub found : (next_block g.pages n (ahead g n c) < n) ×
        (first_in g.pages c.er (next_block g.pages n (ahead g n c)) < g.pages) × (c.er N ≡ true)
    found = next_found g.pages n (ahead g n c) (some_page g core) held.whole.r2 free

    pub N-in : N < t
    N-in = next_in g.pages n (ahead g n c) (some_page g core) held.whole.r2 free

    pub next_free : c.er N ≡ true
    next_free = found.2

    module _ (parts : ℕ → List Entry) (ok : Parts g parts)
        (low : suc (max_seq g n img) < 4294967295) (h : ℕ) (high : h ≤ g.top) where
      pub h_low : h < 256
      h_low = let z = core.top_high in omega (arith, z, high)

      pub put_legal : Legal g n img (next_store g n h parts img)
      unfolding Legal next_store
      put_legal = (
        refl,
        N-in,
        next_free,
        length_built g core parts (suc (max_seq g n img)) h,
        built_seq g core parts ok
            (suc (max_seq g n img)) h low h_low,
      )

      -- without: all is as before, whatever the page holds
      module _ (no-h : h ≡ 0) where
        abbrev w : View
        w = built_view g (suc (max_seq g n img)) h parts

  -- ---- the erase of a block without live pages
  root_live : live (places_of c) c.root ≡ true
  unfolding places live
  root_live = rw (eq-eqb c.root c.root refl) refl

  module _ (b : ℕ) (b-in : b < n) (dead : (j : ℕ) → j < g.pages → live (places_of c) (g.pages * b + j) ≡ false) where
    root_out : in_b g.pages b (root_at t (views g img)) ≡ false
    root_out = by_test (in_b g.pages b (root_at t (views g img)))
        (λ e.
        let r = range g.pages b (root_at t (views g img)) e in
        let z : root_at t (views g img) ≡ c.root = ap (λ (x : Chip). x.root) (view_chip g n img) in
        let d : c.root ≡ g.pages * b + (c.root - g.pages * b) = omega (arith, r, z) in
        absurd (true_false (live (places_of c) c.root) root_live (subst (λ q. live (places_of c) q ≡ false) (sym d)
        (dead (c.root - g.pages * b) (omega (arith, r, z))))))
        (λ e. e)

    abbrev wiped : List ℕ
    wiped = apply_store g (erase b) img

    pub wipe_chip : chip_of g n wiped ≡ erase_block g b c
    wipe_chip = erase_chip g core img n held.image b b-in root_out

    pub wipe_held : Whole g n (erase_block g b c) → Held g n wiped
    wipe_held w = record {
      image = length_store g (erase b) img ∙ held.image;
      bytes = store_small g (erase b) img tt held.bytes;
      r1 = erase_r1 g core img n held.image b b-in held.r1;
      r3 = erase_r3 g core img n held.image b b-in held.r3;
      r4 = erase_r4 g core img n held.image b b-in root_out held.r4;
      whole = subst (Whole g n) (sym wipe_chip) w;
    }

    pub wipe_max : max_seq g n wiped ≤ max_seq g n img
    wipe_max = let z = erase_max g core img n held.image b b-in in let x = view_max g n wiped in let y =
        view_max g n img in
        omega (arith, x, y, z)
