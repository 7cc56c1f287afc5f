-- Collection by what is kept beside the image makes the model's stores ("every victim, store and answer is the same as
-- before"), and record and table stay those worked out afresh. Assumes nothing.
use Rattle.std.specs.Prelude.{◌≡◌, Bool, ltb, length, Option, Some}
use Rattle.std.proofs.Math.Path.{refl, ap, subst}
use Rattle.std.proofs.Common.{sym, ◌∙◌, arith, suc-mul, ltb-true}
use mathlib.Core.List.{List, [], ◌∷◌, ◌++◌}
use Rattle.std.proofs.Math.Bool.{true, false}
use Prim.Native.Nat.{ℕ, zero, suc, ◌+◌, ◌-◌, ◌*◌, ◌<◌, ◌≤◌}
use Rattle.geometry.specs.declared.Geometry.{Geometry}
use Rattle.geometry.specs.declared.Entry.{Entry}
use Rattle.geometry.specs.Tests.{pick}
use Rattle.geometry.specs.Shape.{Shape, shape_core}
use Rattle.geometry.specs.Bounds.{four_bytes}
use Rattle.model.specs.Bytes.{erased}
use Rattle.model.specs.Count.{count}
use Rattle.model.specs.Image.{pages_of, max_seq, Chip, chip_of}
use Rattle.model.specs.Tree.{Place, places_of, live, low_level}
use Rattle.model.specs.Next.{full}
use Rattle.model.specs.Stores.{Store, erase, apply_store, apply_all}
use Rattle.model.specs.Collect.{lives_in, the_victim, move_store, sweep_stores, clear_stores, collect_stores}
use Rattle.chip_store.specs.Runs.{all_append}
use Rattle.theory_counts.specs.Cases.{by_eq}
use Rattle.theory_chips.specs.Next.{in_range}
use Rattle.theory_chips.specs.Whole.{some_page}
use Rattle.theory_chips.specs.Sweep.{sweep, Sweeping, moved_on, emptied}
use Rattle.theory_chips.proofs.Erase.{erased_places}
use Rattle.theory_chips.specs.Collect.{clear, full_none}
use Rattle.theory_chips.proofs.Collect.{round_victim, round}
use Rattle.theory_images.specs.Held.{Held}
use Rattle.theory_images.specs.Writes.{wipe_chip}
use Rattle.live_walk.specs.Lows.{marked_live}
use Rattle.live_words.specs.Words.{block_words, words_of, Told}
use Rattle.live_beside.specs.Table.{Table, Right}
use Rattle.open_record.specs.declared.Opened.{Opened}
use Rattle.open_record.specs.Opened.{opened_in}
use Rattle.live_beside.specs.Beside.{Held as Kept, Beside, beside_by, beside_moved}
use Rattle.live_beside.specs.Collect.{Run, still, and_then, move_by, page_by, sweep_by, erase_by, clear_by, victim_by, collect_by}
use Rattle.theory_updates.specs.Along.{Keeps, runs_end}
use Rattle.theory_updates.specs.Move.{move_chip, move_held, move_max}
use Rattle.theory_updates.specs.Collector.{sweep_runs, clear_runs, Roomy}
use Rattle.theory_updates.specs.Beside.{Tracks, tracks_fresh}
use Rattle.theory_updates.proofs.Beside.{store_same, beside_moved_lem}
use Rattle.theory_updates.specs.Erased.{record_erased_lem}
use Rattle.theory_updates.specs.CollectBy.{Same, Tells, same_tells, victim_same}

same_still : {A : Type 0} (g : Geometry) (P : List ℕ → A → Type 0) (img : List ℕ) (h : A) → P img h
    → Same g P img [] (still h img)
unfolding apply_all
same_still g P img h p = record { stores_are = refl; image_is = refl; tells = p }

same_then : {A B : Type 0} (g : Geometry) (P : List ℕ → A → Type 0) (Q : List ℕ → B → Type 0) (img : List ℕ)
    (ss ts : List Store) (r : Run A)
    (f : A → List ℕ → Run B) → Same g P img ss r → Same g Q (apply_all g ss img) ts (f r.kept (apply_all g ss img))
    → Same g Q img (ss ++ ts) (and_then r f)
same_then g P Q img ss ts r f a b =
    let k = subst (λ j. Same g Q (apply_all g ss img) ts (f r.kept j)) (sym a.image_is) b in
    record {
      stores_are = λ j. a.stores_are j ++ k.stores_are j;
      image_is = k.image_is ∙ sym (all_append g ss ts img);
      tells = k.tells;
    }

-- a table stays right where the places stay
right_same : (g : Geometry) (n : ℕ) (img img' : List ℕ) (t : Table) → places_of (chip_of g n img')
    ≡ places_of (chip_of g n img) → Right g n img t
    → Right g n img' t
right_same g n img img' t e r = record {
  room = r.room;
  marked = record { lows = λ p q. r.marked.lows p q ∙ sym (ap (λ (x : List Place). low_level x p) e) };
  told = subst (λ (x : List Place). Told (live x) (words_of g n) t.words) (sym e) r.told;
}

module _ (g : Geometry) (shape : Shape g) (n : ℕ) (few : pages_of g n + g.pages < four_bytes) where
  -- one move
  move_same : (o : Opened) (img : List ℕ) (q : ℕ) (h : Beside) → Held g n img → q < pages_of g n
      → 1 ≤ count (pages_of g n) (chip_of g n img).er
      → live (places_of (chip_of g n img)) q ≡ true → suc (max_seq g n img) < 4294967295 → Tracks g n o img h
      → Same g (Tracks g n o) img (move_store g n q img ∷ []) (move_by g n q h img)
  unfolding move_by apply_all
  move_same o img q h held q-in free alive low t =
      let s = store_same g shape n o img h q held q-in free t in
      record {
        stores_are = ap (λ (x : Store). x ∷ []) s;
        image_is = ap (λ (x : Store). apply_store g x img) s;
        tells = subst (λ (x : Store). Tracks g n o (apply_store g x img) (beside_moved g n h q img (apply_store g x img))) (sym s)
            (beside_moved_lem g shape n few img held q q-in free alive low o h t);
      }

  -- the moves of a victim's pages
  sweep_same : (o : Opened) (v : ℕ) → v < n → (j : ℕ) (img : List ℕ) (h : Beside) → j ≤ g.pages → Held g n img
      → Sweeping g n v j (chip_of g n img)
      → max_seq g n img + j < 4294967295 → Tracks g n o img h → Same g (Tracks g n o) img (sweep_stores g n v j img)
      (sweep_by g n v j h img)
  unfolding sweep_stores sweep_by page_by apply_all
  sweep_same o v q zero img h b hd s w t = same_still g (Tracks g n o) img h t
  sweep_same o v q (suc j) img h b hd s w t =
      subst (Out (live (places_of (chip_of g n img)) p)) (sym (marked_live (chip_of g n img) h.table.levels t.right.marked p inside))
      (go (live (places_of (chip_of g n img)) p) refl (λ i k. sweep_same o v q j i k (omega arith)))
    where
      p : ℕ
      p = g.pages * v + (g.pages - suc j)

      p_in : g.pages * v + (g.pages - suc j) < pages_of g n
      p_in = in_range g.pages n v (g.pages - suc j) q (omega (arith, b))

      inside : g.pages * v + (g.pages - suc j) < length h.table.levels
      inside = let z = t.right.room in omega (arith, z, p_in)

      st : Store
      st = move_store g n (g.pages * v + (g.pages - suc j)) img

      Out : Bool → Bool → Type 0
      Out u x = Same g (Tracks g n o) img
          (pick u (move_store g n (g.pages * v + (g.pages - suc j)) img ∷ sweep_stores g n v j
          (apply_store g (move_store g n (g.pages * v + (g.pages - suc j)) img) img)) (sweep_stores g n v j img))
          (and_then (pick x (move_by g n (g.pages * v + (g.pages - suc j)) h img) (still h img)) (sweep_by g n v j))

      go : (u : Bool) → live (places_of (chip_of g n img)) (g.pages * v + (g.pages - suc j)) ≡ u
          → ((i : List ℕ) (k : Beside) → Held g n i → Sweeping g n v j (chip_of g n i) → max_seq g n i + j < 4294967295
          → Tracks g n o i k
          → Same g (Tracks g n o) i (sweep_stores g n v j i) (sweep_by g n v j k i))
          → Out u u
      go true e ih =
          let c = chip_of g n img in
          let on = moved_on g shape n v j c b s e in
          let free : 1 ≤ count (pages_of g n) c.er = omega (arith, on.1.frees) in
          let low : suc (max_seq g n img) < 4294967295 = omega (arith, w) in
          let mc = move_chip g shape n few img hd p free e low in
          let mx = move_max g shape n few img hd p free e low in
          let m = move_same o img p h hd p_in free e low t in
          same_then g (Tracks g n o) (Tracks g n o) img (st ∷ []) (sweep_stores g n v j (apply_store g st img)) (move_by g n p h img) (sweep_by g n v j) m
          (ih (apply_store g st img) (move_by g n p h img).kept (move_held g shape n few img hd p free e low) (subst (Sweeping g n v j) (sym mc) on.0)
          (omega (arith, mx, w)) (same_tells g (Tracks g n o) img (st ∷ []) (move_by g n p h img) m))
      go false e ih =
          same_then g (Tracks g n o) (Tracks g n o) img [] (sweep_stores g n v j img) (still h img) (sweep_by g n v j) (same_still g (Tracks g n o) img h t)
          (ih img h hd (record {
            good = s.good;
            full = s.full;
            few = s.few;
            dead = λ i z. by_eq i (g.pages - suc j) (λ y. rw y e) (λ y. s.dead i (omega arith));
          }) (omega (arith, w)) t)

  -- the erase of an emptied victim: no page of it is live; o the record before the sweep
  erase_same : (o : Opened) (v : ℕ) → v < n → (img : List ℕ) (h : Beside) → Held g n img → Sweeping g n v 0
      (chip_of g n img) → Tracks g n o img h
      → Same g (Tells g n) img (erase v ∷ []) (erase_by g n v o h img)
  unfolding erase_by apply_all
  erase_same o v q img h hd s t =
      let dead : (j : ℕ) → j < g.pages → live (places_of (chip_of g n img)) (g.pages * v + j) ≡ false =
      λ j z. s.dead j (omega (arith, z)) in
      let e = ap places_of (wipe_chip g (shape_core g shape) n img hd v q dead)
      ∙ erased_places g shape n v q (chip_of g n img) s in
      record {
        stores_are = refl;
        image_is = refl;
        tells = record {
          at_is = record_erased_lem g shape n img hd v q s o h t;
          right = right_same g n img (apply_store g (erase v) img) h.table e t.right;
        };
      }

  module _ (base : List Entry) (whole : g.pages ≡ 32 * block_words g) where
    abbrev Room : ℕ → Chip → Type 0
    Room = Roomy g shape n few base

    -- one round
    clear_same : (k : ℕ) (img : List ℕ) (h : Kept) → Keeps g n base img → Room k (chip_of g n img)
        → count (pages_of g n) (chip_of g n img).er < g.pages + k → max_seq g n img + g.pages < 4294967295
        → Tells g n img h
        → Same g (Tells g n) img (clear_stores g n (the_victim g.pages n (chip_of g n img)) img)
        (clear_by g n (victim_by g n h.table img) h img)
    unfolding clear_stores clear_by
    clear_same k img h kp rm lack w r =
        subst (λ (o : Option ℕ). Same g (Tells g n) img (clear_stores g n (the_victim g.pages n (chip_of g n img)) img) (clear_by g n o h img))
        (sym (victim_same g n img h.table whole r.right)) (go (round_victim g shape n k (chip_of g n img) kp.held.whole kp.r7 rm lack))
      where
        at : (v : ℕ) → v < n → full g.pages (chip_of g n img).er v ≡ true → lives_in g.pages v
            (chip_of g n img) ≤ count (pages_of g n) (chip_of g n img).er
            → Same g (Tells g n) img (sweep_stores g n v g.pages img ++ (erase v ∷ []))
            (and_then (sweep_by g n v g.pages (beside_by g n h) img) (erase_by g n v h.at))
        at v q f le =
            let c = chip_of g n img in
            let is_full : (i : ℕ) → i < g.pages → c.er (g.pages * v + i) ≡ false =
            λ i z. full_none g shape n k c kp.held.whole v i q f z in
            let begin : Sweeping g n v g.pages c =
            record { good = kp.held.whole; full = is_full; few = le; dead = λ i z. absurd (omega arith) } in
            let ss = sweep_stores g n v g.pages img in
            let a = sweep_runs g shape n few base v q g.pages img (omega arith) kp.held begin kp.r8 kp.map_is w in
            let z = runs_end g n base img ss (sweep g n v g.pages c) (lives_in g.pages v c) 0 a in
            let done = subst (Sweeping g n v 0) (sym a.chip_is) (emptied g shape n v c kp.held.whole is_full le).done in
            let run = sweep_by g n v g.pages (beside_by g n h) img in
            let s = sweep_same h.at v q g.pages img (beside_by g n h) (omega arith) kp.held begin w
            (tracks_fresh g (shape_core g shape) n img h kp.held r.at_is r.right) in
            same_then g (Tracks g n h.at) (Tells g n) img ss (erase v ∷ []) run (erase_by g n v h.at) s
            (erase_same h.at v q (apply_all g ss img) run.kept z.held done (same_tells g (Tracks g n h.at) img ss run s))

        go : (v : ℕ) × (the_victim g.pages n (chip_of g n img) ≡ Some v) × (v < n) ×
            (full g.pages (chip_of g n img).er v ≡ true) ×
            (lives_in g.pages v (chip_of g n img) < g.pages) × (lives_in g.pages v (chip_of g n img) ≤ count (pages_of g n) (chip_of g n img).er)
            → Same g (Tells g n) img (clear_stores g n (the_victim g.pages n (chip_of g n img)) img)
            (clear_by g n (the_victim g.pages n (chip_of g n img)) h img)
        go u = subst (λ (o : Option ℕ). Same g (Tells g n) img (clear_stores g n o img) (clear_by g n o h img)) (sym u.1) (at u.0 u.2 u.3 u.5)

    -- the collector, m rounds
    pub collect_same : (k m : ℕ) (img : List ℕ) (h : Kept) → Keeps g n base img → Room k (chip_of g n img)
        → max_seq g n img + m * g.pages < 4294967295
        → Tells g n img h → Same g (Tells g n) img (collect_stores g n k m img) (collect_by g n k m h img)
    unfolding collect_stores collect_by opened_in
    collect_same k zero img h kp rm w r = same_still g (Tells g n) img h r
    collect_same k (suc m) img h kp rm w r =
        subst (λ (f : ℕ). Same g (Tells g n) img (collect_stores g n k (suc m) img)
        (pick (ltb f (g.pages + k)) (and_then (clear_by g n (victim_by g n h.table img) h img) (collect_by g n k m)) (still h img)))
        (sym erased_is) (go (ltb (count (pages_of g n) (chip_of g n img).er) (g.pages + k)) refl (collect_same k m))
      where
        cs : List Store
        cs = clear_stores g n (the_victim g.pages n (chip_of g n img)) img

        run : Run Kept
        run = clear_by g n (victim_by g n h.table img) h img

        erased_is : h.at.erased ≡ count (pages_of g n) (chip_of g n img).er
        erased_is = ap (λ (o : Opened). o.erased) r.at_is

        go : (u : Bool) → ltb (count (pages_of g n) (chip_of g n img).er) (g.pages + k) ≡ u
            → ((i : List ℕ) (j : Kept) → Keeps g n base i → Room k (chip_of g n i)
            → max_seq g n i + m * g.pages < 4294967295 → Tells g n i j
            → Same g (Tells g n) i (collect_stores g n k m i) (collect_by g n k m j i))
            → Same g (Tells g n) img
            (pick u (clear_stores g n (the_victim g.pages n (chip_of g n img)) img ++ collect_stores g n k m
            (apply_all g (clear_stores g n (the_victim g.pages n (chip_of g n img)) img) img)) [])
            (pick u (and_then (clear_by g n (victim_by g n h.table img) h img) (collect_by g n k m)) (still h img))
        go false z ih = same_still g (Tells g n) img h r
        go true z ih =
            let y : suc m * g.pages ≡ m * g.pages + g.pages = suc-mul m g.pages in
            let c = chip_of g n img in
            let lack = ltb-true (count (pages_of g n) c.er) (g.pages + k) z in
            let d = clear g n (the_victim g.pages n c) c in
            let rd = round g shape n k c kp.held.whole kp.r7 rm lack in
            let a = clear_runs g shape n few base k img kp rm lack (omega (arith, w, y)) in
            let s = clear_same k img h kp rm lack (omega (arith, w, y)) r in
            let i = apply_all g cs img in
            same_then g (Tells g n) (Tells g n) img cs (collect_stores g n k m i) run (collect_by g n k m) s
            (ih i run.kept (runs_end g n base img cs d (g.pages - 1) 1 a) (subst (Room k) (sym a.chip_is) (omega (arith, rd.0.lives, rm)))
            (let u = a.grows in let x = a.programmed in let o = some_page g (shape_core g shape) in
            omega (arith, u, x, o, w, y))
            (same_tells g (Tells g n) img cs run s))
