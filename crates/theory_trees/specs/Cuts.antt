-- k, counted beforehand, is what happens, over any pages: an entry gives way to two exactly where `gains` says so, and
-- the levels that split are 1 to `splits`. The μ-Tree (Splits) is an instance. Assumes nothing.
use Rattle.std.specs.Prelude.{◌≡◌, Bool, true, false, eqb, leb, ltb, None, Some, is_none}
use Rattle.std.proofs.Math.Path.{refl, ap}
use Rattle.std.proofs.Common.{sym, ◌∙◌}
use mathlib.Core.List.{List, [], ◌∷◌}
use Prim.Native.Nat.{ℕ, zero, suc, ◌+◌, ◌*◌, ◌<◌, ◌≤◌, min}
use native.Mathlib.Omega.{arith}
use Rattle.std.proofs.Math.ListN.{length}
use borrow.Author.Tests.{ne_eqb, ltb-true, ltb-false, leb-true, leb-false, eqb-true, eqb-false}
use Rattle.geometry.specs.declared.Entry.{Entry}
use Rattle.geometry.specs.Tests.{pick, ◌&◌, bit, and_left, and_right}
use Rattle.model.specs.Image.{Nodes}
use Rattle.model.specs.Tree.{gather, under, following, chosen, find}
use Rattle.model.specs.Edit.{splice, on_path, put, put_in, gains, splits}
use Rattle.model.specs.Plain.{both}
use Rattle.theory_counts.specs.Tally.{bit_most}
use Rattle.theory_counts.specs.Cases.{by_eq, and_pick}
use Rattle.theory_nodes.specs.Entries.{Rises, gather_one, rises_map, Split, split}
use Rattle.theory_nodes.specs.Nodes.{Ok}
use Rattle.theory_trees.specs.Edit.{splice_length, edit, at_root}
use Rattle.theory_trees.specs.Above.{put_in_lem, above}
use Rattle.theory_trees.specs.Seek.{find_list}
use Rattle.theory_trees.specs.Path.{put_as, below_is, on_path_top, on_path_below}

-- K is above nothing of a list that begins above it
pub above_none : (k hi : ℕ) (es : List Entry) → k < following es hi → Rises (λ y x. Unit {0}) hi es → find k es ≡ None
unfolding find
above_none k hi [] q h = refl
above_none k hi (e ∷ es) q h = rw (ne_eqb e.key k (λ z. omega arith)) (above_none k hi es (omega (arith, h.0)) h.2)

-- in a leaf
pub put_size : (k a hi : ℕ) (es : List Entry) → Rises (λ y x. Unit {0}) hi es
    → length (put k a es) ≡ length es + bit (is_none (find k es))
unfolding find
put_size k a hi [] h = refl
put_size k a hi (e ∷ es) h = go (ltb e.key k) (eqb e.key k) refl refl (put_size k a hi es h.2)
  where
    new : Entry
    new = record { key = k; addr = a }

    go : (t u : Bool) → ltb e.key k ≡ t → eqb e.key k ≡ u
        → length (put k a es) ≡ length es + bit (is_none (find k es))
        → length (pick t (e ∷ put k a es) (record { key = k; addr = a } ∷ pick u es (e ∷ es))) ≡ suc (length es) + bit
        (is_none (pick u (Some e.addr) (find k es)))
    go true true c d i = absurd (omega (arith, ltb-true e.key k c, eqb-true e.key k d))
    go true false c d i = omega (arith, i)
    go false true c d i = omega arith
    go false false c d i =
        let w = ltb-false e.key k c in
        let v = eqb-false e.key k d in
        rw (above_none k hi es (omega (arith, w, v, h.0)) h.2) (omega arith)

module _ (k : ℕ) (half : ℕ → ℕ) (r : Nodes) (absent : Bool) where
  -- a level splits only if all below it do
  pub all_below : (l : ℕ) (e : Entry) → gains r k half absent l e ≡ true → splits r k half absent l e ≡ l
  unfolding gains splits
  all_below zero e h = refl
  all_below (suc l) e h = let i = all_below l (chosen k (r e.addr (suc l))) (and_right _ _ h) in
      omega (arith, i, ap bit h)

  pub splits_le : (l : ℕ) (e : Entry) → splits r k half absent l e ≤ l
  unfolding splits
  splits_le zero e = omega arith
  splits_le (suc l) e = omega (arith, splits_le l (chosen k (r e.addr (suc l))), bit_most (gains r k half absent (suc l) e))

module _ (k a : ℕ) (one : ℕ → ℕ) (left right : ℕ → List Entry → ℕ) (half : ℕ → ℕ) (r : Nodes) (fit : ℕ → ℕ → Type 0)
    (absent : Bool) where
  abbrev room_at : ℕ → ℕ
  room_at l = 2 * half l

  abbrev inserts : ℕ → Entry → List Entry
  inserts = edit r k (λ e. put k a (e ∷ [])) (above k one left right half)

  abbrev gain : ℕ → Entry → Bool
  gain = gains r k half absent

  named_size : (l i : ℕ) (e : Entry) (c : List Entry) (b : Bool) → i ≤ 2 * half l → length c ≡ i + bit b
      → length (above k one left right half l e c) ≡ 1 + bit (eqb i (2 * half l) & b)
  named_size l i e c b q h = rw (and_pick (eqb i (2 * half l)) b) (go (leb (length c) (2 * half l)) (eqb i (2 * half l)) b refl refl refl)
    where
      go : (t u v : Bool) → leb (length c) (2 * half l) ≡ t → eqb i (2 * half l) ≡ u → b ≡ v
          → length (pick t (record { key = min e.key k; addr = one l } ∷ []) (both (left l c) (right l c) (half l)
          (min e.key k) c))
          ≡ 1 + bit (pick u v false)
      go true true true x y z = absurd (omega (arith, leb-true (length c) (2 * half l) x, eqb-true i (2 * half l) y, h, ap bit z))
      go true true false x y z = refl
      go true false v x y z = refl
      go false true true x y z = refl
      go false true false x y z = absurd (omega (arith, leb-false (length c) (2 * half l) x, eqb-true i (2 * half l) y, h, ap bit z))
      go false false v x y z = absurd (omega (arith, leb-false (length c) (2 * half l) x, eqb-false i (2 * half l) y, h, bit_most b))

  list_size : (l hi : ℕ) (es : List Entry) → 0 < length es → k < hi → Rises (Ok fit room_at r l) hi es
      → is_none (find k (gather (under r l) es)) ≡ absent
      → ((y : ℕ) → k < y → (chosen k es).key < y → Ok fit room_at r l y (chosen k es)
      → is_none (find k (under r l (chosen k es))) ≡ absent → length
      (inserts l (chosen k es)) ≡ 1 + bit (gain l (chosen k es)))
      → length (splice (inserts l) k es) ≡ length es + bit (gain l (chosen k es))
  list_size l hi es c q h f step =
      let s = split (Ok fit room_at r l) k hi es c q h in
      let i = step (following s.post hi) s.under s.up s.here (ap is_none (sym (find_list fit room_at r k l hi es c q h)) ∙ f) in
      omega (arith, splice_length (Ok fit room_at r l) (inserts l) k hi es c q h, i)

  -- an entry gives way to two exactly if it gains
  size : (l hi : ℕ) (e : Entry) → k < hi → e.key < hi → Ok fit room_at r l hi e → is_none (find k (under r l e)) ≡ absent
      → length (inserts l e) ≡ 1 + bit (gain l e)
  unfolding edit gains Ok under
  size zero hi e q b h f = put_size k a hi (e ∷ []) (b, tt, tt) ∙ ap (λ t. 1 + bit t) f
  size (suc l) hi e q b h f = let es = r e.addr (suc l) in
      named_size (suc l) (length es) e (splice (inserts l) k es) (gain l (chosen k es)) h.2
      (list_size l hi es h.1 q h.4 f (λ y c d i j. size l y (chosen k es) c d i j))

  -- a node's list takes one more exactly if the chosen entry gains
  pub size_list : (l hi : ℕ) (es : List Entry) → 0 < length es → k < hi → Rises (Ok fit room_at r l) hi es
      → is_none (find k (gather (under r l) es)) ≡ absent
      → length (splice (inserts l) k es) ≡ length es + bit (gain l (chosen k es))
  size_list l hi es c q h f = list_size l hi es c q h f (λ y c d i j. size l y (chosen k es) c d i j)

  -- the root's too, also an empty leaf
  pub root_size : (l hi : ℕ) (es : List Entry) → (1 ≤ l → 0 < length es) → k < hi → Rises (Ok fit room_at r l) hi es
      → is_none (find k (gather (under r l) es)) ≡ absent
      → length (at_root (put_in k a) (inserts l) k l es) ≡ length es + bit (gain l (chosen k es))
  unfolding at_root gains under
  root_size zero hi es c q h f =
      let up = rises_map (Ok fit room_at r 0) (λ y x. Unit {0}) hi es (λ y x _ _ _. tt) h in
      ap length (put_in_lem k a hi es q up) ∙ put_size k a hi es up ∙ ap (λ t. length es + bit t)
      (ap (λ m. is_none (find k m)) (sym (gather_one es)) ∙ f)
  root_size (suc l) hi es c q h f = size_list (suc l) hi es (c (omega arith)) q h f

  -- a node's list is too long exactly if the entry that names the node gains
  pub over : (l hi : ℕ) (e : Entry) → k < hi → Ok fit room_at r (suc l) hi e → is_none (find k (under r (suc l) e))
      ≡ absent
      → 2 * half (suc l) < length (splice (inserts l) k (r e.addr (suc l))) → gain (suc l) e ≡ true
  unfolding gains Ok under
  over l hi e q h f b = rw (and_pick (eqb (length es) (2 * half (suc l))) (gain l (chosen k es)))
      (go (eqb (length es) (2 * half (suc l))) (gain l (chosen k es)) refl refl (size_list l hi es h.1 q h.4 f))
    where
      es : List Entry
      es = r e.addr (suc l)

      go : (t u : Bool) → eqb (length (r e.addr (suc l))) (2 * half (suc l)) ≡ t
          → gain l (chosen k (r e.addr (suc l))) ≡ u
          → length (splice (inserts l) k (r e.addr (suc l))) ≡ length (r e.addr (suc l)) + bit u
          → pick t u false ≡ true
      go true true x y z = refl
      go true false x y z = absurd (omega (arith, h.2, z, b))
      go false true x y z = absurd (omega (arith, h.2, z, b, eqb-false (length (r e.addr (suc l))) (2 * half (suc l)) x))
      go false false x y z = absurd (omega (arith, h.2, z, b))

  pub long : (l hi : ℕ) (e : Entry) → k < hi → Ok fit room_at r (suc l) hi e → is_none (find k (under r (suc l) e))
      ≡ absent → gain (suc l) e ≡ true
      → 2 * half (suc l) < length (splice (inserts l) k (r e.addr (suc l)))
  unfolding gains Ok under
  long l hi e q h f b =
      let es = r e.addr (suc l) in
      let x = eqb-true (length es) (2 * half (suc l)) (and_left _ _ b) in
      let y = ap bit (and_right _ _ b) in
      omega (arith, size_list l hi es h.1 q h.4 f, x, y)

  abbrev lists : ℕ → Entry → ℕ → List Entry
  lists = on_path r k (put_in k a) (above k one left right half)

  -- of the path's nodes below the root those at levels 1 to `splits` are too long, and no others
  pub splits_are : (l hi : ℕ) (e : Entry) → k < hi → (1 ≤ l → 0 < length (r e.addr (suc l)))
      → Rises (Ok fit room_at r l) hi (r e.addr (suc l))
      → is_none (find k (under r (suc l) e)) ≡ absent
      → (j : ℕ) → 1 ≤ j → j ≤ l
      → (2 * half j < length (lists l e j) → j ≤ splits r k half absent l (chosen k (r e.addr (suc l)))) ×
      (j ≤ splits r k half absent l (chosen k (r e.addr (suc l))) → 2 * half j < length (lists l e j))
  unfolding splits under Ok
  splits_are zero hi e q c h f j d b = absurd (omega arith)
  splits_are (suc l) hi e q c h f j d b = by_eq j (suc l) here (there (splits_are l (following s.post hi) x s.under (λ _. s.here.1)
      s.here.4 f' j d))
    where
      es : List Entry
      es = r e.addr (suc (suc l))

      s : Split (Ok fit room_at r (suc l)) k hi es (chosen k es) (λ f. splice f k es)
      s = split (Ok fit room_at r (suc l)) k hi es (c (omega arith)) q h

      x : Entry
      x = chosen k es

      f' : is_none (find k (under r (suc l) x)) ≡ absent
      f' = ap is_none (sym (find_list fit room_at r k (suc l) hi es (c (omega arith)) q h)) ∙ f

      Goal : Type 0
      Goal = (2 * half j < length (lists (suc l) e j) → j ≤ bit (gain (suc l) x) + splits r k half absent l (chosen k (r x.addr (suc l)))) ×
          (j ≤ bit (gain (suc l) x) + splits r k half absent l (chosen k (r x.addr (suc l))) → 2 * half j < length (lists (suc l) e j))

      less : splits r k half absent l (chosen k (r x.addr (suc l))) ≤ l
      less = splits_le k half r absent l (chosen k (r x.addr (suc l)))

      gain_all : gain (suc l) x ≡ true → bit (gain (suc l) x) + splits r k half absent l
          (chosen k (r x.addr (suc l))) ≡ suc l
      gain_all w = all_below k half r absent (suc l) x w

      here : j ≡ suc l → Goal
      here z =
          let w : lists (suc l) e (suc l) ≡ splice (inserts l) k (r x.addr (suc l)) =
          on_path_below fit room_at r k (put_in k a) (λ e. put k a (e ∷ []))
          (above k one left right half) (put_as k a) l (suc l) e (omega arith)
          ∙ on_path_top fit room_at r k (put_in k a) (λ e. put k a (e ∷ []))
          (above k one left right half) (put_as k a) l x
          ∙ below_is fit room_at r k (put_in k a) (λ e. put k a (e ∷ [])) (above k one left right half)
          (put_as k a) l (following s.post hi) x s.under s.here in
          rw z (
            (λ i. let u = gain_all (over l (following s.post hi) x s.under s.here f' (rw w at i)) in
                omega (arith, u)),
            (λ i. rw w (long l (following s.post hi) x s.under s.here f' (gained (gain (suc l) x) refl i))),
          )
        where
          gained : (t : Bool) → gain (suc l) x ≡ t → suc l ≤ bit t + splits r k half absent l
              (chosen k (r x.addr (suc l))) → gain (suc l) x ≡ true
          gained true e i = e
          gained false e i = absurd (omega (arith, i, less))

      there : (j ≤ l → (2 * half j < length (lists l x j) → j ≤ splits r k half absent l
          (chosen k (r x.addr (suc l)))) ×
          (j ≤ splits r k half absent l (chosen k (r x.addr (suc l))) → 2 * half j < length (lists l x j))) → (j ≡ suc l → ⊥) → Goal
      there step z =
          let ih = step (omega arith) in
          rw (on_path_below fit room_at r k (put_in k a) (λ e. put k a (e ∷ [])) (above k one left right half) (put_as k a) l j e (omega arith)) (
            (λ i. omega (arith, ih.0 i)),
            (λ i. ih.1 (low (gain (suc l) x) refl i)),
          )
        where
          low : (t : Bool) → gain (suc l) x ≡ t → j ≤ bit t + splits r k half absent l (chosen k (r x.addr (suc l)))
              → j ≤ splits r k half absent l (chosen k (r x.addr (suc l)))
          low true e i = omega (arith, gain_all e, ap bit e, b, z)
          low false e i = omega (arith, i)
