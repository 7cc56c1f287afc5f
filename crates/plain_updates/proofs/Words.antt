-- The plain tree's calls (request 12) in the demands' words: Ready, map_at, Holds, Kept, Began (crate theory_demands). The
-- definitions `plain_insert`, `plain_delete`, `lookup` and `format` with the geometry `plain`; k, the key, and a, the
-- address, are below 2^32; al is the store allowance. Assumes nothing.
use Rattle.std.specs.Prelude.{◌≡◌, List, [], ◌∷◌, ℕ, ◌<◌, ◌≤◌, length, take}
use Rattle.std.proofs.Math.Path.{ap, sym}
use Rattle.std.proofs.Common.{subst, ◌∙◌, inl, inr, arith, length-append, ltb-false}
use Rattle.std.proofs.lemmas.List.{take-append-le}
use Rattle.geometry.specs.declared.Entry.{Entry}
use Rattle.geometry.specs.Geometry.{plain}
use Rattle.geometry.specs.Bounds.{four_bytes}
use Rattle.model.specs.Image.{blocks_of, pages_of, Chip, chip_of}
use Rattle.model.specs.Tree.{erased_pages}
use Rattle.model.specs.Stores.{Store, apply_all, programs, erases}
use Rattle.model.specs.Edit.{put, remove}
use Rattle.model.specs.Calls.{Outcome}
use Rattle.model.specs.Plain.{plain_insert_stores, plain_needs, plain_insert}
use Rattle.model.specs.Plain.{plain_delete_stores, plain_leaves, plain_delete}
use Rattle.theory_images.specs.Lengths.{length_all}
use Rattle.theory_updates.specs.Along.{along_take}
use Rattle.theory_demands.specs.Words.{Ready, map_at, Holds, Lawful, programmed_most, erased_most, Kept, Began}
use Rattle.theory_demands.specs.Bridges.{along_lawful}
use Rattle.theory_demands.specs.Calls.{made_done, made_stopped, made_image}
use Rattle.plain_updates.specs.Laid.{PlainKeeps, PlainUpdated}
use Rattle.plain_updates.proofs.Insertion.{plain_inserted}
use Rattle.plain_updates.specs.Insertion.{plain_insert_programs, plain_insert_erases, plain_insert_most}
use Rattle.plain_updates.proofs.Deletion.{plain_deleted}
use Rattle.plain_updates.specs.Deletion.{plain_delete_programs, plain_delete_erases, plain_delete_most}
use Rattle.plain_updates.specs.Words.{blocks, keeps_holds, plain_delete_passed, plain_insert_passed, ready_held, some_blocks}

module _ (img : List ℕ) (ready : Ready plain img) where
  abbrev m : ℕ
  m = blocks_of plain img

  abbrev d : Chip
  d = chip_of plain m img

  -- an update's list meets demand 3
  updated_kept : (new : List Entry) (ss : List Store) → PlainUpdated plain m (map_at plain img) new img ss
      → programs ss ≤ programmed_most plain
      → erases ss ≤ erased_most plain → Kept plain (map_at plain img) new img ss
  updated_kept new ss u most none =
      let e = u.list_is in
      let len = ap length e ∙ length-append u.init (u.last ∷ []) in
      record {
        lawful = subst (Lawful plain m img) (sym e) (along_lawful plain m (PlainKeeps plain m (map_at plain img)) img u.init u.last u.along u.legal);
        before = λ j q. let f : take j ss ≡ take j u.init =
            ap (take j) e ∙ take-append-le j u.init (u.last ∷ []) (omega (arith, q, len)) in
            keeps_holds img ready.length_good (map_at plain img) (apply_all plain (take j ss) img) (length_all plain (take j ss) img)
            (subst (λ (x : List Store). PlainKeeps plain m (map_at plain img) (apply_all plain x img)) (sym f)
            (along_take plain m (PlainKeeps plain m (map_at plain img)) img u.init j u.along));
        end = keeps_holds img ready.length_good new (apply_all plain ss img) (length_all plain ss img) u.end;
        programmed = most;
        wiped = none;
      }

  module _ (k : ℕ) (k_low : k < four_bytes) where
    module _ (a al : ℕ) (a-low : a < four_bytes) where
      abbrev ss : List Store
      ss = plain_insert_stores plain m img k a

      pub plain_insert_kept : Began (plain_insert plain img k a al) → Kept plain (map_at plain img)
          (put k a (map_at plain img)) img ss
      plain_insert_kept b =
          let p = (plain_insert_passed img k a al ready b).0 in
          updated_kept (put k a (map_at plain img)) ss
          (plain_inserted m (some_blocks img ready) (blocks img ready).most img (ready_held img ready) k a k_low a-low p.0 p.1.0
          (ltb-false (erased_pages (pages_of plain m) d) (plain_needs plain d k) p.1.1.0))
          (let x = plain_insert_programs m (some_blocks img ready) (blocks img ready).most img (ready_held img ready) k a k_low a-low in
          let y = plain_insert_most m (some_blocks img ready) (blocks img ready).most img (ready_held img ready) k a k_low a-low p.1.0 in
          omega (arith, x, y))
          (let x = plain_insert_erases m (some_blocks img ready) (blocks img ready).most img (ready_held img ready) k a k_low a-low in omega (arith, x))

      -- an insert that answers 0 leaves a sound image, its map with K put in
      pub plain_insert_done : (plain_insert plain img k a al).answer ≡ 0 → Holds plain (put k a (map_at plain img))
          (plain_insert plain img k a al).image
      plain_insert_done h =
          let p = (plain_insert_passed img k a al ready (inl h)).1 in
          let e = ap (λ (o : Outcome). o.image) p ∙ made_done plain ss al img (sym (ap (λ (o : Outcome). o.answer) p)
          ∙ h) in
          subst (Holds plain (put k a (map_at plain img))) (sym e) (plain_insert_kept (inl h)).end

      -- a stopped one a sound image with the old map
      pub plain_insert_stopped : (plain_insert plain img k a al).answer ≡ 7 → Holds plain (map_at plain img) (plain_insert plain img k a al).image
      plain_insert_stopped h =
          let p = (plain_insert_passed img k a al ready (inr h)).1 in
          let e = ap (λ (o : Outcome). o.image) p ∙ made_image plain ss al img in
          subst (Holds plain (map_at plain img)) (sym e) ((plain_insert_kept (inr h)).before al
          (made_stopped plain ss al img (sym (ap (λ (o : Outcome). o.answer) p) ∙ h)))

    module _ (al : ℕ) where
      abbrev ts : List Store
      ts = plain_delete_stores plain m img k

      pub plain_delete_kept : Began (plain_delete plain img k al) → Kept plain (map_at plain img)
          (remove k (map_at plain img)) img ts
      plain_delete_kept b =
          let p = (plain_delete_passed img k 0 al ready b).0 in
          let there = p.1.0 in
          updated_kept (remove k (map_at plain img)) ts
          (plain_deleted m (some_blocks img ready) (blocks img ready).most img (ready_held img ready) k k_low there p.0
          (ltb-false (erased_pages (pages_of plain m) d) (plain_leaves d k) p.1.1.0))
          (let x = plain_delete_programs m (some_blocks img ready) (blocks img ready).most img (ready_held img ready) k k_low there in
          let y = plain_delete_most m (some_blocks img ready) (blocks img ready).most img (ready_held img ready) k k_low there in omega (arith, x, y))
          (let x = plain_delete_erases m (some_blocks img ready) (blocks img ready).most img (ready_held img ready) k k_low there in omega (arith, x))

      pub plain_delete_done : (plain_delete plain img k al).answer ≡ 0 → Holds plain (remove k (map_at plain img))
          (plain_delete plain img k al).image
      plain_delete_done h =
          let p = (plain_delete_passed img k 0 al ready (inl h)).1 in
          let e = ap (λ (o : Outcome). o.image) p ∙ made_done plain ts al img (sym (ap (λ (o : Outcome). o.answer) p)
          ∙ h) in
          subst (Holds plain (remove k (map_at plain img))) (sym e) (plain_delete_kept (inl h)).end

      pub plain_delete_stopped : (plain_delete plain img k al).answer ≡ 7 → Holds plain (map_at plain img)
          (plain_delete plain img k al).image
      plain_delete_stopped h =
          let p = (plain_delete_passed img k 0 al ready (inr h)).1 in
          let e = ap (λ (o : Outcome). o.image) p ∙ made_image plain ts al img in
          subst (Holds plain (map_at plain img)) (sym e) ((plain_delete_kept (inr h)).before al
          (made_stopped plain ts al img (sym (ap (λ (o : Outcome). o.answer) p) ∙ h)))
