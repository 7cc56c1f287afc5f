-- The collector on bytes: every image on its way is sound and holds the map; at most pages - 1 programs and one erase a
-- round; it leaves room, and k as it was. Assumes nothing.
use Rattle.std.specs.Prelude.{◌≡◌, Bool, true, not, ltb, Some}
use Rattle.std.proofs.Math.Path.{refl, ap, subst}
use Rattle.std.proofs.Common.{sym, ◌∙◌, inl, inr, arith, suc-mul, ltb-true}
use mathlib.Core.List.{List, [], ◌∷◌, ◌++◌}
use Rattle.std.proofs.Math.Bool.{false}
use Prim.Native.Nat.{ℕ, zero, suc, ◌+◌, ◌-◌, ◌*◌, ◌<◌, ◌≤◌}
use Rattle.geometry.specs.declared.Geometry.{Geometry}
use Rattle.geometry.specs.declared.Entry.{Entry}
use Rattle.geometry.specs.Tests.{pick}
use Rattle.geometry.specs.Shape.{Shape, shape_core}
use Rattle.geometry.specs.Bounds.{four_bytes}
use Rattle.model.specs.Count.{count}
use Rattle.model.specs.Image.{pages_of, max_seq, Chip, chip_of}
use Rattle.model.specs.Tree.{map_of, Place, places_of, live}
use Rattle.model.specs.Next.{full, ahead, next_page}
use Rattle.model.specs.Stores.{Store, erase, apply_store, apply_all, programs, erases}
use Rattle.model.specs.Collect.{lives_in, the_victim, move_store, sweep_stores, clear_stores, collect_stores}
use Rattle.theory_counts.specs.Cases.{by_eq}
use Rattle.theory_chips.specs.Whole.{some_page, Same}
use Rattle.theory_chips.specs.Moves.{move_to}
use Rattle.theory_chips.specs.Sweep.{sweep, Sweeping, moved_on, emptied}
use Rattle.theory_chips.specs.Erase.{erase_block, erased_frees}
use Rattle.theory_chips.proofs.Erase.{erased_good, erased_pairs, erased_places}
use Rattle.theory_chips.specs.Collect.{clear, collect, R7, R8, full_none}
use Rattle.theory_chips.proofs.Collect.{round_victim, round, collected}
use Rattle.theory_images.specs.Held.{Held}
use Rattle.model.specs.Legal.{Legal}
use Rattle.theory_images.specs.Writes.{wipe_chip, wipe_held, wipe_max}
use Rattle.theory_updates.specs.Along.{Along, Keeps, Runs, runs_end, runs_none, runs_then, runs_as}
use Rattle.theory_updates.specs.Move.{move_chip, move_held, move_map, move_max, move_legal}

module _ (g : Geometry) (shape : Shape g) (n : ℕ) (few : pages_of g n + g.pages < four_bytes) (base : List Entry) where
  abbrev t : ℕ
  t = pages_of g n

  sweeping_r7 : (v j : ℕ) (c : Chip) → v < n → Sweeping g n v j c → R7 g n c
  sweeping_r7 v j c q h = let z = some_page g (shape_core g shape) in inr (
    v,
    q,
    ap not
        (h.full (g.pages - 1) (omega (arith, z))),
    h.few,
  )

  -- the moves of a victim's pages
  pub sweep_runs : (v : ℕ) → v < n → (j : ℕ) (img : List ℕ) → j ≤ g.pages → Held g n img → Sweeping g n v j
      (chip_of g n img)
      → R8 g n (chip_of g n img) → map_of (chip_of g n img) ≡ base → max_seq g n img + j < 4294967295
      → Runs g n base img (sweep_stores g n v j img) (sweep g n v j (chip_of g n img))
      (lives_in g.pages v (chip_of g n img)) 0
  unfolding sweep_stores sweep Along apply_all programs erases move_store
  sweep_runs v q zero img b h s u m w = runs_none g n base img _ 0
      (record { held = h; r7 = sweeping_r7 v 0 (chip_of g n img) q s; r8 = u; map_is = m })
  sweep_runs v q (suc j) img b h s r8 m w =
      go (live (places_of (chip_of g n img)) (g.pages * v + (g.pages - suc j))) refl
      (λ i. sweep_runs v q j i (omega arith))
    where
      p : ℕ
      p = g.pages * v + (g.pages - suc j)

      c : Chip
      c = chip_of g n img

      N : ℕ
      N = next_page g.pages n (ahead g n (chip_of g n img))

      st : Store
      st = move_store g n (g.pages * v + (g.pages - suc j)) img

      go : (u : Bool) → live (places_of (chip_of g n img)) (g.pages * v + (g.pages - suc j)) ≡ u
          → ((i : List ℕ) → Held g n i → Sweeping g n v j (chip_of g n i) → R8 g n (chip_of g n i)
          → map_of (chip_of g n i) ≡ base → max_seq g n i + j < 4294967295
          → Runs g n base i (sweep_stores g n v j i) (sweep g n v j (chip_of g n i)) (lives_in g.pages v (chip_of g n i))
          0)
          → Runs g n base img
          (pick u (move_store g n (g.pages * v + (g.pages - suc j)) img ∷ sweep_stores g n v j
          (apply_store g (move_store g n (g.pages * v + (g.pages - suc j)) img) img)) (sweep_stores g n v j img))
          (pick u (sweep g n v j (move_to (g.pages * n) (chip_of g n img) (g.pages * v + (g.pages - suc j))
          (next_page g.pages n (ahead g n (chip_of g n img)))))
          (sweep g n v j (chip_of g n img))) (lives_in g.pages v (chip_of g n img)) 0
      go true e ih =
          let o = moved_on g shape n v j c b s e in
          let free : 1 ≤ count t c.er = omega (arith, o.1.frees) in
          let low : suc (max_seq g n img) < 4294967295 = omega (arith, w) in
          let mc = move_chip g shape n few img h p free e low in
          let mx = move_max g shape n few img h p free e low in
          let r = ih (apply_store g st img) (move_held g shape n few img h p free e low) (subst (Sweeping g n v j) (sym mc) o.0)
          (subst (R8 g n) (sym mc) (let z = o.1.lives in omega (arith, z, r8)))
          (move_map g shape n few img h p free e low ∙ m) (omega (arith, mx, w)) in
          let lv = ap (lives_in g.pages v) mc in
          record {
            along = (record { held = h; r7 = sweeping_r7 v (suc j) c q s; r8 = r8; map_is = m }, move_legal g shape n few img h p free e low, r.along);
            chip_is = r.chip_is ∙ ap (sweep g n v j) mc;
            grows = omega (arith, r.grows, mx);
            programmed = omega (arith, r.programmed, lv, o.2);
            wiped = r.wiped;
          }
      go false e ih =
          ih img h (record {
            good = s.good;
            full = s.full;
            few = s.few;
            dead = λ i z. by_eq i (g.pages - suc j) (λ y. rw y e)
                (λ y. s.dead i (omega arith));
          }) r8 m (omega (arith, w))

  -- the erase of an emptied victim
  erase_runs : (v : ℕ) → v < n → (img : List ℕ) → Held g n img → Sweeping g n v 0 (chip_of g n img)
      → R8 g n (chip_of g n img)
      → map_of (chip_of g n img) ≡ base → Runs g n base img (erase v ∷ []) (erase_block g v (chip_of g n img)) 0 1
  unfolding Along apply_all Legal programs erases
  erase_runs v q img h s u m =
      let c = chip_of g n img in
      let dead : (j : ℕ) → j < g.pages → live (places_of c) (g.pages * v + j) ≡ false =
      λ j z. s.dead j (omega (arith, z)) in
      let ec = wipe_chip g (shape_core g shape) n img h v q dead in
      let mx = wipe_max g (shape_core g shape) n img h v q dead in
      let fr = erased_frees g shape n v q c s in
      let held = wipe_held g (shape_core g shape) n img h v q dead (erased_good g shape n v q c s) in
      record {
        along = (
          record { held = h; r7 = sweeping_r7 v 0 c q s; r8 = u; map_is = m },
          (q, dead),
          record {
            held = held;
            r7 = subst (R7 g n) (sym ec) (inl (omega (arith, fr)));
            r8 = subst (R8 g n) (sym ec) (let z = ap (λ (x : List Place). count t (live x)) (erased_places g shape n v q c s) in omega (arith, z, u));
            map_is = ap map_of ec ∙ erased_pairs g shape n v q c s
                ∙ m;
          },
        );
        chip_is = ec;
        grows = omega (arith, mx);
        programmed = omega arith;
        wiped = omega arith;
      }

  -- not ROOM
  abbrev pub Roomy : ℕ → Chip → Type 0
  Roomy k c = count t (live (places_of c)) + (2 * g.pages + k) ≤ suc t

  -- one round
  pub clear_runs : (k : ℕ) (img : List ℕ) → Keeps g n base img → Roomy k (chip_of g n img)
      → count t (chip_of g n img).er < g.pages + k
      → max_seq g n img + g.pages < 4294967295
      → Runs g n base img (clear_stores g n (the_victim g.pages n (chip_of g n img)) img)
      (clear g n (the_victim g.pages n (chip_of g n img)) (chip_of g n img)) (g.pages - 1) 1
  unfolding clear_stores clear
  clear_runs k img h rm lack w = go (round_victim g shape n k (chip_of g n img) h.held.whole h.r7 rm lack)
    where
      Out : List Store → Chip → Type 0
      Out ss d = Runs g n base img ss d (g.pages - 1) 1

      at : (v : ℕ) → v < n → full g.pages (chip_of g n img).er v ≡ true → lives_in g.pages v
          (chip_of g n img) < g.pages
          → lives_in g.pages v (chip_of g n img) ≤ count t (chip_of g n img).er
          → Out (sweep_stores g n v g.pages img ++ (erase v ∷ [])) (erase_block g v
          (sweep g n v g.pages (chip_of g n img)))
      at v q f less le =
          let c = chip_of g n img in
          let is_full : (i : ℕ) → i < g.pages → c.er (g.pages * v + i) ≡ false =
          λ i z. full_none g shape n k c h.held.whole v i q f z in
          let sw = emptied g shape n v c h.held.whole is_full le in
          let ss = sweep_stores g n v g.pages img in
          let a = sweep_runs v q g.pages img (omega arith) h.held (record {
            good = h.held.whole;
            full = is_full;
            few = le;
            dead =
                λ i z. absurd (omega arith);
          }) h.r8 h.map_is w in
          let i = apply_all g ss img in
          let z = runs_end g n base img ss (sweep g n v g.pages c) (lives_in g.pages v c) 0 a in
          let b = erase_runs v q i z.held (subst (Sweeping g n v 0) (sym a.chip_is) sw.done) z.r8 z.map_is in
          runs_as g n base img (ss ++ (erase v ∷ [])) (erase_block g v (chip_of g n i)) (erase_block g v (sweep g n v g.pages c))
          (lives_in g.pages v c + 0) (g.pages - 1) (0 + 1) 1 (ap (erase_block g v) a.chip_is) (omega (arith, less)) (omega arith)
          (runs_then g n base img ss (erase v ∷ []) (sweep g n v g.pages c) (erase_block g v (chip_of g n i)) (lives_in g.pages v c) 0 0 1 a b)

      go : (v : ℕ) × (the_victim g.pages n (chip_of g n img) ≡ Some v) × (v < n) ×
          (full g.pages (chip_of g n img).er v ≡ true) ×
          (lives_in g.pages v (chip_of g n img) < g.pages) × (lives_in g.pages v (chip_of g n img) ≤ count t (chip_of g n img).er)
          → Out (clear_stores g n (the_victim g.pages n (chip_of g n img)) img)
          (clear g n (the_victim g.pages n (chip_of g n img)) (chip_of g n img))
      go u = subst (λ o. Out (clear_stores g n o img) (clear g n o (chip_of g n img))) (sym u.1) (at u.0 u.2 u.3 u.4 u.5)

  -- the collector, m rounds
  pub collect_runs : (k m : ℕ) (img : List ℕ) → Keeps g n base img → Roomy k (chip_of g n img)
      → max_seq g n img + m * g.pages < 4294967295
      → Runs g n base img (collect_stores g n k m img) (collect g n k m (chip_of g n img)) (m * (g.pages - 1)) m
  unfolding collect_stores collect
  collect_runs k zero img h rm w = runs_none g n base img (zero * (g.pages - 1)) 0 h
  collect_runs k (suc m) img h rm w = go (ltb (count t (chip_of g n img).er) (g.pages + k)) refl (collect_runs k m)
    where
      Out : List Store → Chip → Type 0
      Out ss d = Runs g n base img ss d (suc m * (g.pages - 1)) (suc m)

      c : Chip
      c = chip_of g n img

      cs : List Store
      cs = clear_stores g n (the_victim g.pages n (chip_of g n img)) img

      go : (u : Bool) → ltb (count t (chip_of g n img).er) (g.pages + k) ≡ u
          → ((i : List ℕ) → Keeps g n base i → Roomy k (chip_of g n i) → max_seq g n i + m * g.pages < 4294967295
          → Runs g n base i
          (collect_stores g n k m i) (collect g n k m (chip_of g n i)) (m * (g.pages - 1)) m)
          → Out (pick u (clear_stores g n (the_victim g.pages n (chip_of g n img)) img ++ collect_stores g n k m
          (apply_all g (clear_stores g n (the_victim g.pages n (chip_of g n img)) img) img)) []) (pick u (collect g n k m
          (clear g n (the_victim g.pages n (chip_of g n img)) (chip_of g n img))) (chip_of g n img))
      go false z ih = runs_none g n base img (suc m * (g.pages - 1)) (suc m) h
      go true z ih =
          let y : suc m * g.pages ≡ m * g.pages + g.pages = suc-mul m g.pages in
          let y' : suc m * (g.pages - 1) ≡ m * (g.pages - 1) + (g.pages - 1) = suc-mul m (g.pages - 1) in
          let lack = ltb-true (count t c.er) (g.pages + k) z in
          let d = clear g n (the_victim g.pages n c) c in
          let rd = round g shape n k c h.held.whole h.r7 rm lack in
          let a = clear_runs k img h rm lack (omega (arith, w, y)) in
          let i = apply_all g cs img in
          let ci = a.chip_is in
          let b = ih i (runs_end g n base img cs d (g.pages - 1) 1 a) (subst (Roomy k) (sym ci) (omega (arith, rd.0.lives, rm)))
          (let u = a.grows in let x = a.programmed in let o = some_page g (shape_core g shape) in
          omega (arith, u, x, o, w, y)) in
          runs_as g n base img (cs ++ collect_stores g n k m i) (collect g n k m (chip_of g n i)) (collect g n k m d)
          (g.pages - 1 + m * (g.pages - 1)) (suc m * (g.pages - 1)) (1 + m) (suc m) (ap (collect g n k m) ci) (omega (arith, y')) (omega arith)
          (runs_then g n base img cs (collect_stores g n k m i) d (collect g n k m (chip_of g n i)) (g.pages - 1) (m * (g.pages - 1)) 1 m a b)

  -- what the collector leaves for an update that needs k pages
  pub record Collected (k : ℕ) (img : List ℕ) : Type 0 where
    pub runs : Runs g n base img (collect_stores g n k (suc k) img) (collect g n k (suc k) (chip_of g n img))
        (suc k * (g.pages - 1)) (suc k)
    pub keeps : Keeps g n base (apply_all g (collect_stores g n k (suc k) img) img)
    pub room : g.pages + k ≤ count t (chip_of g n (apply_all g (collect_stores g n k (suc k) img) img)).er
    pub alike : Same g (chip_of g n img) (chip_of g n (apply_all g (collect_stores g n k (suc k) img) img))
    pub lives : count t (live (places_of (chip_of g n (apply_all g (collect_stores g n k (suc k) img) img)))) ≤ count t
        (live (places_of (chip_of g n img)))

  pub collect_done : (k : ℕ) (img : List ℕ) → Keeps g n base img → Roomy k (chip_of g n img)
      → max_seq g n img + suc k * g.pages < 4294967295
      → Collected k img
  collect_done k img h rm w =
      let r = collect_runs k (suc k) img h rm w in
      let c = collected g shape n k (chip_of g n img) h.held.whole h.r7 rm in
      record {
        runs = r;
        keeps = runs_end g n base img (collect_stores g n k (suc k) img) (collect g n k (suc k) (chip_of g n img)) (suc k * (g.pages - 1)) (suc k) r;
        room = subst (λ (x : Chip). g.pages + k ≤ count t x.er) (sym r.chip_is) c.1;
        alike = subst (Same g (chip_of g n img)) (sym r.chip_is) c.0.alike;
        lives = subst (λ (x : Chip). count t (live (places_of x)) ≤ count t (live (places_of (chip_of g n img)))) (sym r.chip_is) c.0.lives;
      }
