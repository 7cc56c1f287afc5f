-- What marks change in a table: the levels of the marked pages alone, and the words with them, so that words which told
-- the levels still do; words past the image's stay. Of a move: the path's pages from level a up die whose level is the
-- path's there, and the new page gets a. Assumes nothing.
use Prim.Native.Nat.{ℕ, zero, suc, ◌+◌, ◌*◌, ◌/◌, ◌<◌}
use Rattle.std.proofs.Common.{arith, ◌∙◌, inl, ltb-true, ltb-false}
use Rattle.std.specs.Prelude.{Bool, ◌≡◌, List, [], ◌∷◌, map, eqb, leb, ltb, length, set}
use Rattle.std.proofs.Math.Bool.{true, false, not}
use Rattle.std.proofs.Math.Path.{refl, sym, ap}
use Rattle.std.proofs.Math.Logic.{inr}
use Rattle.std.proofs.Math.ListN.{length-set}
use Rattle.std.proofs.Math.Seq.{get_or-set_same, get_or-set_other}
use Rattle.geometry.specs.declared.Entry.{Entry}
use Rattle.geometry.specs.Tests.{pick}
use Rattle.model.specs.Image.{Nodes}
use Rattle.model.specs.Tree.{Place, chosen}
use Rattle.theory_counts.specs.Cases.{by_eq}
use Rattle.theory_lists.specs.All.{Mem}
use Rattle.theory_nodes.specs.PathPlaces.{spot, path_places}
use Rattle.live_walk.specs.Table.{live_in}
use Rattle.live_words.specs.Words.{word, Told, Past}
use Rattle.live_words.specs.Filled.{word_same, past_none, past_set}
use Rattle.live_beside.specs.Table.{Table, low_in, mark, unmark, off_path, table_moved}
use Rattle.live_beside.specs.Marks.{Follows, Off, follows_none, follows_then, mark_other, mark_same, moved_pages, unmark_low}

module _ (m q a : ℕ) (t : Table) where
  -- a word that holds no mark of q is as it was
  other_word : (i : ℕ) → (i ≡ q / 32 → ⊥) → word (live_in t.levels) i ≡ word (live_in (set t.levels q a)) i
  unfolding live_in
  other_word i d = word_same (live_in t.levels) (live_in (set t.levels q a)) i
      (λ j b. sym (ap (λ (x : ℕ). not (eqb x 0)) (get_or-set_other t.levels q (32 * i + j) a 0 (λ e. d (omega (arith, e, b))))))

  mark_told : Told (live_in t.levels) m t.words → Told (live_in (mark m q a t).levels) m (mark m q a t).words
  unfolding mark
  mark_told h = go (ltb (q / 32) m) refl
    where
      w : ℕ
      w = word (live_in (set t.levels q a)) (q / 32)

      go : (b : Bool) → ltb (q / 32) m ≡ b → Told (live_in (set t.levels q a)) m (pick b (set t.words (q / 32) w)
          t.words)
      go true e = record {
        room = omega (arith, h.room, length-set t.words (q / 32) w);
        each = λ i k. by_eq i (q / 32)
            (λ z. rw z (get_or-set_same t.words (q / 32) w 0 (omega (arith, h.room, ltb-true (q / 32) m e))))
            (λ d. get_or-set_other t.words (q / 32) i w 0 d ∙ h.each i k ∙ other_word i d);
      }
      go false e = record { room = h.room; each = λ i k. h.each i k ∙ other_word i (λ z. omega (arith, z, k, ltb-false (q / 32) m e)) }

  mark_past : Past m t.words (mark m q a t).words
  unfolding mark
  mark_past = go (ltb (q / 32) m) refl
    where
      w : ℕ
      w = word (live_in (set t.levels q a)) (q / 32)

      go : (b : Bool) → ltb (q / 32) m ≡ b → Past m t.words (pick b (set t.words (q / 32) w) t.words)
      go true e = past_set m t.words (q / 32) w (ltb-true (q / 32) m e)
      go false e = past_none m t.words

  pub mark_follows : Follows m t (mark m q a t)
  unfolding mark
  mark_follows = record { long = length-set t.levels q a; told = mark_told; past = mark_past }

off_then : (x : Place) (path : List Place) (p old mid new : ℕ) → Off (x ∷ []) p old mid → Off path p mid new
    → Off (x ∷ path) p old new
off_then x path p old mid new (inl (inl e, z)) (inl h) = inl (inl e, h.1)
off_then x path p old mid new (inl (inl e, z)) (inr h) = inl (inl e, h.1 ∙ z)
off_then x path p old mid new (inl (inr e, z)) h = absurd e
off_then x path p old mid new (inr (d, z)) h = go (rw z at h)
  where
    go : Off path p old new → Off (x ∷ path) p old new
    go (inl i) = inl (inr i.0, i.1)
    go (inr i) = inr (none i.0, i.1)
      where
        none : (Mem (spot p old) path → ⊥) → Mem (spot p old) (x ∷ path) → ⊥
        none f (inl e) = d (inl e)
        none f (inr j) = f j

module _ (m q j : ℕ) (t : Table) where
  pub unmark_follows : Follows m t (unmark m q j t)
  unfolding unmark
  unmark_follows = go (eqb (low_in t q) j)
    where
      go : (b : Bool) → Follows m t (pick b (mark m q 0 t) t)
      go true = mark_follows m q 0 t
      go false = follows_none m t

module _ (m : ℕ) (r : Nodes) (k a : ℕ) where
  pub off_low : (l : ℕ) (e : Entry) (t : Table) (p : ℕ) → Off (path_places r k a (suc l) e) p (low_in t p)
      (low_in (off_path m r k a l e t) p)
  unfolding path_places off_path
  off_low zero e t p = go (leb a 1)
    where
      go : (b : Bool) → Off (pick b (spot e.addr 1 ∷ []) []) p (low_in t p)
          (low_in (pick b (unmark m e.addr 1 t) t) p)
      go true = unmark_low m e.addr 1 t p
      go false = inr ((λ z. z), refl)
  off_low (suc l) e t p =
      go (leb a (suc (suc l))) (off_low l (chosen k (r e.addr (suc (suc l)))) (unmark m e.addr (suc (suc l)) t) p)
    where
      x : Entry
      x = chosen k (r e.addr (suc (suc l)))

      u : Table
      u = unmark m e.addr (suc (suc l)) t

      go : (b : Bool) → Off (path_places r k a (suc l) x) p (low_in u p) (low_in (off_path m r k a l x u) p)
          → Off (pick b (spot e.addr (suc (suc l)) ∷ path_places r k a (suc l) x) []) p (low_in t p)
          (low_in (pick b (off_path m r k a l x u) t) p)
      go true h = off_then (spot e.addr (suc (suc l))) (path_places r k a (suc l) x) p (low_in t p) (low_in u p) (low_in (off_path m r k a l x u) p)
          (unmark_low m e.addr (suc (suc l)) t p) h
      go false h = inr ((λ z. z), refl)

  pub off_follows : (l : ℕ) (e : Entry) (t : Table) → Follows m t (off_path m r k a l e t)
  unfolding off_path
  off_follows zero e t = go (leb a 1)
    where
      go : (b : Bool) → Follows m t (pick b (unmark m e.addr 1 t) t)
      go true = unmark_follows m e.addr 1 t
      go false = follows_none m t
  off_follows (suc l) e t =
      go (leb a (suc (suc l))) (off_follows l (chosen k (r e.addr (suc (suc l)))) (unmark m e.addr (suc (suc l)) t))
    where
      x : Entry
      x = chosen k (r e.addr (suc (suc l)))

      u : Table
      u = unmark m e.addr (suc (suc l)) t

      go : (b : Bool) → Follows m u (off_path m r k a l x u) → Follows m t (pick b (off_path m r k a l x u) t)
      go true h = follows_then m t u (off_path m r k a l x u) (unmark_follows m e.addr (suc (suc l)) t) h
      go false h = follows_none m t

page_mem : (x : Place) (xs : List Place) → Mem x xs → Mem x.page (map (λ x. x.page) xs)
page_mem x [] i = absurd i
page_mem x (y ∷ xs) (inl e) = inl (ap (λ (z : Place). z.page) e)
page_mem x (y ∷ xs) (inr i) = inr (page_mem x xs i)

module _ (m : ℕ) (r : Nodes) (k a l : ℕ) (e : Entry) (new : ℕ) (t : Table) where
  pub moved_new : new < length t.levels → low_in (table_moved m r k a l e new t) new ≡ a
  unfolding table_moved
  moved_new h = mark_same m new a (off_path m r k a l e t) (omega (arith, h, (off_follows m r k a l e t).long))

  pub moved_low : (p : ℕ) → (p ≡ new → ⊥) → Off (path_places r k a (suc l) e) p (low_in t p)
      (low_in (table_moved m r k a l e new t) p)
  unfolding table_moved
  moved_low p d = rw (mark_other m new a (off_path m r k a l e t) p d) (off_low m r k a l e t p)

  pub moved_follows : Follows m t (table_moved m r k a l e new t)
  unfolding table_moved
  moved_follows = follows_then m t (off_path m r k a l e t) (mark m new a (off_path m r k a l e t)) (off_follows m r k a l e t)
      (mark_follows m new a (off_path m r k a l e t))

  pub others_stay : (p : ℕ) → (Mem p (moved_pages r k a l e new) → ⊥) → low_in (table_moved m r k a l e new t) p
      ≡ low_in t p
  others_stay p d = go (moved_low p (λ z. d (inl (sym z))))
    where
      go : Off (path_places r k a (suc l) e) p (low_in t p) (low_in (table_moved m r k a l e new t) p)
          → low_in (table_moved m r k a l e new t) p ≡ low_in t p
      go (inl i) = absurd (d (inr (page_mem (spot p (low_in t p)) (path_places r k a (suc l) e) i.0)))
      go (inr i) = i.1
