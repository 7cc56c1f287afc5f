-- An insertion's own stores on bytes: the other halves, lower level first, then N. Assumes nothing.
use Rattle.std.specs.Prelude.{◌≡◌, Bool, false, length, is_none}
use Rattle.std.proofs.Math.Path.{refl, ap, sym, subst}
use Rattle.std.proofs.Common.{◌∙◌}
use mathlib.Core.List.{List, [], ◌∷◌, ◌++◌, append_assoc}
use Prim.Native.Nat.{ℕ, suc, ◌+◌, ◌-◌, ◌*◌, ◌<◌, ◌≤◌}
use native.Mathlib.Omega.{arith}
use Rattle.geometry.specs.declared.Geometry.{Geometry}
use Rattle.geometry.specs.declared.Entry.{Entry}
use Rattle.geometry.specs.Tests.{bit}
use Rattle.geometry.specs.Geometry.{half}
use Rattle.geometry.specs.Shape.{Shape}
use Rattle.geometry.specs.Bounds.{four_bytes}
use Rattle.model.specs.Count.{count, peak}
use Rattle.model.specs.Image.{pages_of, max_seq, Chip, chip_of}
use Rattle.model.specs.Tree.{places_of, live, chosen, sought}
use Rattle.model.specs.Next.{Ahead, ahead, next_page, taken}
use Rattle.model.specs.Page.{built}
use Rattle.model.specs.Stores.{Store, program, apply_all}
use Rattle.model.specs.Edit.{put, splits}
use Rattle.model.specs.Update.{root_node, fills, needs, too_high, insert_list, side_stores, crown_store, crown_height, side_page, own_stores}
use Rattle.theory_counts.specs.Cases.{by_test}
use Rattle.theory_chips.specs.Whole.{Whole}
use Rattle.theory_chips.specs.Insertion.{main_list, grow_all}
use Rattle.theory_updates.specs.Along.{Keeps}
use Rattle.theory_updates.specs.Contents.{main_parts}
use Rattle.theory_updates.specs.Updated.{Updated, updated}
use Rattle.theory_updates.specs.Insertion.{Inserted, all_fit, all_sided, final_done, high, left, m_is, next_is, page_is}

module _ (g : Geometry) (shape : Shape g) (n : ℕ) (few : pages_of g n + g.pages < four_bytes) (k a : ℕ)
    (k_low : k < four_bytes)
    (a-low : a < four_bytes)
    (base : List Entry) (img : List ℕ) (keeps : Keeps g n base img) (not-high : too_high g (chip_of g n img) k ≡ false)
    (room : g.pages + needs g (chip_of g n img) k ≤ count (pages_of g n) (chip_of g n img).er)
    (low : max_seq g n img + needs g (chip_of g n img) k < 4294967295)
    (space : count (pages_of g n) (live (places_of (chip_of g n img))) + (2 * g.pages + needs g (chip_of g n img) k) ≤ suc (pages_of g n)) where
  abbrev c : Chip
  c = chip_of g n img

  abbrev t : ℕ
  t = pages_of g n

  abbrev m : ℕ
  m = needs g c k

  abbrev side : ℕ → ℕ
  side = side_page g n c

  abbrev N : ℕ
  N = side m

  abbrev lists : ℕ → List Entry
  lists = insert_list g c k a N side

  abbrev seq : ℕ
  seq = max_seq g n img

  abbrev whole : Whole g n c
  whole = keeps.held.whole

  abbrev cuts : ℕ
  cuts = splits c.nodes k (half g) (is_none (sought c k)) c.level (chosen k (root_node c))

  abbrev grows : Bool
  grows = fills g (suc c.level) (length (lists (suc c.level)))

  abbrev halves : List Store
  halves = side_stores g seq k side lists c.level ++ crown_store g seq k side (suc c.level) (lists (suc c.level))

  abbrev height : ℕ
  height = crown_height g (suc c.level) (lists (suc c.level))

  height_in : (1 ≤ height) × (height ≤ g.top)
  unfolding crown_height
  height_in = by_test grows (λ e. let u = grow_all g shape n k a k_low c whole e in
      rw e (omega arith, omega (arith, u.0)))
      (λ e. rw e (omega arith, high g shape n few k a k_low a-low base img keeps not-high room low space))

  -- the insertion's own stores: m programs
  pub own_updated : Updated g n (Inserted g n c m k a) base (put k a base) img (own_stores g n seq c m k a) m 0
  unfolding own_stores max_seq
  own_updated =
      let s = all_sided g shape n few k a k_low a-low base img keeps not-high room low space in
      let i = cuts + bit grows in
      let ss = halves in
      let x = apply_all g ss img in
      let ci = s.runs.chip_is in
      let lf = left g shape n few k a k_low a-low base img keeps not-high room low space i (omega (arith, m_is g shape n few k a k_low a-low base img keeps not-high room low space)) in
      let cnt : count t s.chip.er ≡ count t (taken g.pages n (ahead g n c) i).er =
      ap (λ (y : Ahead). count t y.er) s.laid.ahead_is in
      let chip_most : peak t s.chip.seq ≡ peak t c.seq + i = sym (ap (λ (y : Chip). peak t y.seq) ci)
      ∙ s.max_is in
      let page : next_page g.pages n (ahead g n (chip_of g n x)) ≡ N =
      ap (λ (y : Chip). next_page g.pages n (ahead g n y)) ci ∙ (page_is g shape n few k a k_low a-low base img keeps not-high room low space) s.chip s.laid
      (suc (peak t s.chip.seq)) refl chip_most in
      let st = program N (built g (seq + m) height (main_list g n c k a)) in
      let e = next_is g shape n few k a k_low a-low base img keeps not-high room low space height m (main_list g n c k a) x page (omega (arith, s.max_is, m_is g shape n few k a k_low a-low base img keeps not-high room low space)) in
      let u = updated g shape n (Inserted g n c m k a) base (put k a base) img ss s.chip i 0 height
      (main_list g n c k a) st s.runs (omega (arith, cnt, lf, room, m_is g shape n few k a k_low a-low base img keeps not-high room low space))
      (omega (arith, s.max_is, low, m_is g shape n few k a k_low a-low base img keeps not-high room low space))
      (main_parts g shape n few k a k_low a-low c whole (all_fit g shape n few k a k_low a-low base img keeps not-high room low space) (high g shape n few k a k_low a-low base img keeps not-high room low space) not-high) height_in.0 height_in.1 e
      (λ q num. let w = final_done g shape n few k a k_low a-low base img keeps not-high room low space s.chip s.laid q num chip_most in
      (w.0, w.1 ∙ ap (put k a) keeps.map_is, w.2, w.3)) in
      let z : i + 1 ≡ m = omega (arith, m_is g shape n few k a k_low a-low base img keeps not-high room low space) in
      subst (λ j. Updated g n (Inserted g n c m k a) base (put k a base) img (side_stores g seq k side lists c.level ++
      (crown_store g seq k side (suc c.level) (lists (suc c.level)) ++ (st ∷ []))) j 0) z
      (subst (λ (y : List Store). Updated g n (Inserted g n c m k a) base (put k a base) img y (i + 1) 0)
      (append_assoc (side_stores g seq k side lists c.level) (crown_store g seq k side (suc c.level) (lists (suc c.level))) (st ∷ [])) u)
