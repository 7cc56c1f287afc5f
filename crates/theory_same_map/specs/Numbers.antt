-- The largest number on an image: legal stores raise it by at most 1 a program. Assumes nothing.
use Rattle.std.specs.Prelude.{◌≡◌, Bool}
use Rattle.std.proofs.Math.Path.{ap}
use Rattle.std.proofs.Common.{sym, subst, ◌∙◌, zero-add}
use mathlib.Core.List.{List, [], ◌∷◌}
use Rattle.std.proofs.Math.Bool.{true, false}
use Prim.Native.Nat.{ℕ, suc, ◌+◌, ◌<◌, ◌≤◌}
use native.Mathlib.Omega.{arith}
use Rattle.geometry.specs.declared.Geometry.{Geometry}
use Rattle.geometry.specs.declared.Entry.{Entry}
use Rattle.geometry.specs.Geometry.{page_bytes, page_base}
use Rattle.geometry.specs.Tests.{pick}
use Rattle.geometry.specs.Shape.{Core}
use Rattle.model.specs.Bytes.{u32_at, blank}
use Rattle.model.specs.Image.{blocks_of, good_length, pages_of, max_seq}
use Rattle.model.specs.Stores.{Store, program, erase, apply_store, apply_all, programs}
use Rattle.model.specs.Legal.{Legal}
use Rattle.model.specs.Calls.{Outcome, made}
use Rattle.theory_images.specs.Views.{top_of, max_put}
use Rattle.theory_images.specs.Page.{view_from, views, view_max}
use Rattle.theory_images.specs.Stores.{Image, length_store, base_le, views_program, erase_max}
use Rattle.theory_images.specs.Lengths.{good_blocks_lem, blocks_same, length_all}
use Rattle.theory_demands.specs.Words.{Lawful, programmed_most, Kept}
use Rattle.theory_demands.specs.Calls.{made_done}

-- the largest number on an image
abbrev pub largest_on : Geometry → List ℕ → ℕ
largest_on g img = max_seq g (blocks_of g img) img

-- a page ends where the next one begins, at the latest at the image's end
pub page_end : (g : Geometry) (p t : ℕ) → p < t → page_base g p + page_bytes g ≤ page_base g t
unfolding page_base
page_end g p t h = let w = base_le g (p + 1) t (omega arith) in omega (arith, w)

module _ (g : Geometry) (core : Core g) (n : ℕ) where
  store_raises : (img : List ℕ) (s : Store) → Image g n img → Legal g n img s
      → max_seq g n (apply_store g s img) ≤ max_seq g n img + programs (s ∷ [])
  unfolding Legal programs view_from
  store_raises img (program p bs) image (at, inside, free, long, number) =
      let w = page_end g p (pages_of g n) inside in
      let e = ap (top_of (pages_of g n)) (views_program g core img p bs (omega (arith, w, image))) in
      let z = max_put (pages_of g n) (views g img) p (view_from g bs 0) low in
      let x = view_max g n (apply_store g (program p bs) img) in
      let y = view_max g n img in
      omega (arith, e, z, x, y)
    where
      low : (view_from g bs 0).seq ≤ suc (top_of (pages_of g n) (views g img))
      low = go (blank bs 0 (page_bytes g))
        where
          go : (b : Bool) → pick b 0 (u32_at bs (0 + g.main)) ≤ suc (top_of (pages_of g n) (views g img))
          go true = omega arith
          go false = rw (zero-add g.main) (let y = view_max g n img in omega (arith, number, y))
  store_raises img (erase b) image (inside, dead) =
      let z = erase_max g core img n image b inside in
      let x = view_max g n (apply_store g (erase b) img) in
      let y = view_max g n img in
      omega (arith, z, x, y)

  lawful_raises : (img : List ℕ) (ss : List Store) → Image g n img → Lawful g n img ss
      → max_seq g n (apply_all g ss img) ≤ max_seq g n img + programs ss
  unfolding Lawful apply_all programs
  lawful_raises img [] image h = omega arith
  lawful_raises img (program p bs ∷ ss) image h =
      let a = store_raises img (program p bs) image h.0 in
      let b = lawful_raises (apply_store g (program p bs) img) ss (length_store g (program p bs) img ∙ image) h.1 in
      omega (arith, a, b)
  lawful_raises img (erase p ∷ ss) image h =
      let a = store_raises img (erase p) image h.0 in
      let b = lawful_raises (apply_store g (erase p) img) ss (length_store g (erase p) img ∙ image) h.1 in
      omega (arith, a, b)

-- an update that answers 0
pub update_raises : (g : Geometry) → Core g → (old new : List Entry) (img : List ℕ) (ss : List Store)
    (al : ℕ) (o : Outcome) → good_length g img ≡ true
    → Kept g old new img ss → o ≡ made g ss al img → o.answer ≡ 0
    → largest_on g o.image ≤ largest_on g img + programmed_most g
update_raises g core old new img ss al o good kept is done =
    let e = ap (λ (v : Outcome). v.image) is ∙ made_done g ss al img (sym (ap (λ (v : Outcome). v.answer) is)
    ∙ done) in
    let z = lawful_raises g core (blocks_of g img) img ss (good_blocks_lem g img good).image kept.lawful in
    let b = blocks_same g img (apply_all g ss img) (length_all g ss img) in
    let x = ap (λ n. max_seq g n (apply_all g ss img)) b in
    let y = kept.programmed in
    subst (λ (i : List ℕ). largest_on g i ≤ largest_on g img + programmed_most g) (sym e) (omega (arith, z, x, y))
