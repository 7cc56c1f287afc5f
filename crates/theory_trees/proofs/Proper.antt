-- R5 and R6 together, after an insertion, a deletion and a move. Assumes nothing.
use Rattle.std.specs.Prelude.{◌≡◌, List, ◌⊎◌, length}
use Rattle.std.proofs.Common.{sym, subst, inl, inr, arith}
use Prim.Native.Nat.{ℕ, zero, suc, ◌*◌, ◌<◌, ◌≤◌}
use Rattle.geometry.specs.declared.Entry.{Entry}
use Rattle.model.specs.Image.{Nodes}
use Rattle.model.specs.Tree.{under, Place, places, following, chosen}
use Rattle.model.specs.Edit.{splice, put, put_in, two}
use Rattle.model.specs.Calls.{made}
use Rattle.theory_lists.specs.All.{All, Mem, all_map, all_get}
use Rattle.theory_nodes.specs.Nodes.{the, Rooted, rooted_with}
use Rattle.theory_trees.specs.Edit.{at_root}
use Rattle.theory_trees.specs.Insert.{Halves, inserted, InsertMade}
use Rattle.theory_trees.proofs.Insert.{stay_pairs, stay_ok, grow_pairs, grow_ok}
use Rattle.theory_trees.specs.Move.{moved, MoveMade, move_pairs, move_ok, Tie, MoveWhere}
use Rattle.theory_trees.proofs.Move.{moved_where, moved_dead}
use Rattle.theory_trees.proofs.Tied.{tie_all}
use Rattle.theory_trees.specs.Tied.{Where}
use Rattle.theory_trees.proofs.InsertPages.{stay_where, grow_where}
use Rattle.theory_trees.specs.Proper.{LiveAt, Moved, Proper, at_mem, k_top, places_level, retied, root_fit, with_live}

module _ (n top : ℕ) (half most : ℕ → ℕ) (r s : Nodes) (fit fit' : ℕ → ℕ → Type 0) (fit_n : (l : ℕ) → fit' (suc l) n)
    (keep : (l b : ℕ) → fit l b → fit' l b) (same : (q l : ℕ) → fit (suc l) q → s q (suc l) ≡ r q (suc l))
    (new-n : (l : ℕ) → fit (suc l) n → ⊥) where
  abbrev room_at : ℕ → ℕ
  room_at l = 2 * half l

  module _ (k a : ℕ) (side : ℕ → ℕ) (Cut : ℕ → Type 0) (fit-a : fit' 0 a) (k_top : k < top)
      (side-n : (l : ℕ) → Cut l → side l ≡ n → ⊥) (side_inj : (i j : ℕ) → Cut i → Cut j → side i ≡ side j → i ≡ j)
      (new_side : (l j : ℕ) → Cut l → fit (suc j) (side l) → ⊥) where
    abbrev root_list : ℕ → ℕ → List Entry
    root_list l p = at_root (put_in k a) (inserted r k a n side half l) k l (r p (suc l))

    pub insert_stay : (l p : ℕ) → Proper fit room_at most top r l p → InsertMade r s k a n side half fit' Cut l
        (chosen k (r p (suc l)))
        → s n (suc l) ≡ root_list l p → length (root_list l p) ≤ most (suc l)
        → Proper fit' room_at most top s l n × (under s (suc l) (the n) ≡ put k a (under r (suc l) (the p)))
    insert_stay l p h m e b =
        let spots = places r (suc l) (the p) in (
          record {
            rooted = stay_ok k a n top side half most r s fit fit' Cut fit_n fit-a keep same k_top l p h.rooted m e b;
            tied = retied n top half most r s fit fit' fit_n keep same new-n side Cut side-n side_inj new_side spots h.tied 1 (places s (suc l) (the n))
                (stay_where k a n top side half most r s (λ j q. fit j q × LiveAt spots j q) fit' Cut fit_n fit-a (λ l b i. keep l b i.0)
                (λ q l i. same q l i.0) k_top l p (with_live fit room_at most top r l p h.rooted) m e);
          },
          stay_pairs k a n top side half most r s fit fit' Cut fit_n fit-a keep same k_top l p h.rooted m e,
        )

    pub insert_grow : (l p : ℕ) → Proper fit room_at most top r l p → InsertMade r s k a n side half fit' Cut l
        (chosen k (r p (suc l)))
        → Halves k n side s fit' (suc l) (2 * half (suc l)) (root_list l p) → Cut (suc l)
        → s n (suc (suc l)) ≡ two k n (side (suc l)) (2 * half (suc l)) (following (root_list l p) 0) (root_list l p)
        → length (root_list l p) ≡ 4 * half (suc l) → 2 ≤ most (suc (suc l))
        → Proper fit' room_at most top s (suc l) n × (under s (suc (suc l)) (the n) ≡ put k a (under r (suc l) (the p)))
    insert_grow l p h m hs cut e len w =
        let spots = places r (suc l) (the p) in (
          record {
            rooted = grow_ok k a n top side half most r s fit fit' Cut fit_n fit-a keep same k_top l p h.rooted m
                (record { halves = hs; top_list = e }) len w;
            tied = retied n top half most r s fit fit' fit_n keep same new-n side Cut side-n side_inj new_side spots h.tied 1 (places s (suc (suc l)) (the n))
                (grow_where k a n top side half most r s (λ j q. fit j q × LiveAt spots j q) fit' Cut fit_n fit-a (λ l b i. keep l b i.0)
                (λ q l i. same q l i.0) k_top l p (with_live fit room_at most top r l p h.rooted) m hs cut len e);
          },
          grow_pairs k a n top side half most r s fit fit' Cut fit_n fit-a keep same k_top l p h.rooted m (record { halves = hs; top_list = e }),
        )

-- a move of page p, whose left_low live level is a
module _ (p a n top : ℕ) (half most : ℕ → ℕ) (r s : Nodes) (fit fit' : ℕ → ℕ → Type 0)
    (fit_n : (l : ℕ) → fit' (suc l) n)
    (keep : (l b : ℕ) → fit l b → fit' l b) (same : (q l : ℕ) → fit (suc l) q → s q (suc l) ≡ r q (suc l))
    (new-n : (l : ℕ) → fit (suc l) n → ⊥)
    (l p₀ : ℕ) (h : Proper fit (λ l. 2 * half l) most top r l p₀) (m : Mem (record { page = p; level = a }) (places r (suc l) (the p₀)))
    (low : All (λ x. x.page ≡ p → a ≤ x.level) (places r (suc l) (the p₀))) where
  abbrev room_at' : ℕ → ℕ
  room_at' l = 2 * half l

  abbrev spots : List Place
  spots = places r (suc l) (the p₀)

  abbrev k₁ : ℕ
  k₁ = following (r p a) 0

  a_in : (1 ≤ a) × (a ≤ suc l)
  a_in = all_get (λ x. (1 ≤ x.level) × (x.level ≤ suc l)) (record { page = p; level = a }) spots (places_level r (suc l) (the p₀)) m

  not_same : (a : ℕ) → 1 ≤ a → fit a p → n ≡ p → ⊥
  not_same zero b f e = omega arith
  not_same (suc a) b f e = new-n a (subst (fit (suc a)) (sym e) f)

  n_p : n ≡ p → ⊥
  n_p = let f = all_get (λ x. (1 ≤ x.level) × fit x.level x.page) (record { page = p; level = a }) spots
      (root_fit fit room_at' most r l p₀ top h.rooted) m in not_same a f.0 f.1

  abbrev fit_live : ℕ → ℕ → Type 0
  fit_live j q = fit j q × LiveAt spots j q

  tied_root : Rooted (λ j q. fit_live j q × Tie r p a j q) room_at' most top r l p₀
  tied_root = rooted_with fit_live room_at' most top r (Tie r p a) l p₀ (λ _. tt) (tie_all r p a spots h.tied m low)
      (with_live fit room_at' most top r l p₀ h.rooted)

  pub move_sound : MoveMade r s k₁ a n l (chosen k₁ (r p₀ (suc l))) → s n (suc l) ≡ splice (moved r k₁ a n l) k₁
      (r p₀ (suc l)) → (Moved p a n top half most r s fit fit' fit_n keep same new-n l p₀ h m low)
  move_sound made e =
      record {
        sound = record {
          rooted = move_ok k₁ a n top half most r s fit fit' fit_n keep same l p₀ h.rooted (k_top p a n top half most r s fit fit' fit_n keep same new-n l p₀ h m low) made e;
          tied = retied n top half most r s fit fit' fit_n keep same new-n (λ _. 0) (λ _. ⊥) (λ l z _. z) (λ i j z _ _. absurd z) (λ l j z _. z) spots
              h.tied a (places s (suc l) (the n))
              (all_map (MoveWhere p a n top half most r s fit_live fit' a_in.0 keep' same')
              (Where s n a (λ _. 0) (λ _. ⊥) (λ x. (1 ≤ x.level) × fit_live x.level x.page)) (places s (suc l) (the n)) tag wh);
        };
        pairs_are = move_pairs k₁ a n top half most r s fit fit' fit_n keep same l p₀ h.rooted (k_top p a n top half most r s fit fit' fit_n keep same new-n l p₀ h m low) made e;
        dead = moved_dead p a n top half most r s fit_live fit' a_in.0 keep' same' l p₀ n_p tied_root (k_top p a n top half most r s fit fit' fit_n keep same new-n l p₀ h m low) a_in.1 made e;
        within = all_map (MoveWhere p a n top half most r s fit_live fit' a_in.0 keep' same') (λ x. (x.page ≡ n) ⊎ Mem x spots)
            (places s (suc l) (the n)) old wh;
      }
    where
      keep' : (l b : ℕ) → fit_live l b × Tie r p a l b → fit' l b
      keep' l b i = keep l b i.0.0

      same' : (q l : ℕ) → fit_live (suc l) q × Tie r p a (suc l) q → s q (suc l) ≡ r q (suc l)
      same' q l i = same q l i.0.0

      wh : All (MoveWhere p a n top half most r s fit_live fit' a_in.0 keep' same') (places s (suc l) (the n))
      wh = moved_where p a n top half most r s fit_live fit' a_in.0 keep' same' l p₀ tied_root (k_top p a n top half most r s fit fit' fit_n keep same new-n l p₀ h m low) a_in.1 made e

      tag : (x : Place) → MoveWhere p a n top half most r s fit_live fit' a_in.0 keep' same' x
          → Where s n a (λ _. 0) (λ _. ⊥) (λ x. (1 ≤ x.level) × fit_live x.level x.page) x
      tag x (inl i) = inl i
      tag x (inr i) = inr (inr (i.1, i.2))

      old : (x : Place) → MoveWhere p a n top half most r s fit_live fit' a_in.0 keep' same' x → (x.page ≡ n) ⊎
          Mem x spots
      old x (inl i) = inl i.0
      old x (inr i) = inr (at_mem spots x.page x.level i.1 i.2.1)
