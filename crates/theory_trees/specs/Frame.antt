-- A tree whose pages keep their content: what stays. Assumes nothing.
use Rattle.std.specs.Prelude.{◌≡◌, List, ◌∷◌}
use Rattle.std.proofs.Common.{ap, sym, subst}
use Prim.Native.Nat.{ℕ, suc, ◌≤◌}
use Rattle.geometry.specs.declared.Entry.{Entry}
use Rattle.model.specs.Image.{Nodes}
use Rattle.model.specs.Tree.{gather, under, Place, places}
use Rattle.theory_lists.specs.All.{All, all_map, all_both}
use Rattle.theory_nodes.specs.Entries.{Rises, gather_eq, rises_map, rises_all}
use Rattle.theory_nodes.specs.Nodes.{Ok, node_same, ok_same, under_same, places_same, the, Rooted}
use Rattle.theory_nodes.specs.Tied.{TiedTo, Tied}
use Rattle.theory_trees.specs.Proper.{Proper, root_fit}

module _ (top : ℕ) (room most : ℕ → ℕ) (r s : Nodes) (fit fit' : ℕ → ℕ → Type 0) (keep : (l b : ℕ) → fit l b → fit' l b)
    (same : (q l : ℕ) → fit (suc l) q → s q (suc l) ≡ r q (suc l)) (l p : ℕ) where
  pub rooted_same : Rooted fit room most top r l p → Rooted fit' room most top s l p
  rooted_same h = let e = same p l h.fits in
      record {
        fits = keep (suc l) p h.fits;
        least = λ z. rw e (h.least z);
        atmost = rw e h.atmost;
        rises = rw e (rises_map (Ok fit room r l) (Ok fit' room s l) top (r p (suc l)) (λ y x _ _ i. ok_same fit room fit' r s keep same l y x i)
            h.rises);
      }

  list_same : (B : Type 0) (d d' : Entry → List B) (es : List Entry) → Rises (Ok fit room r l) top es
      → ((y : ℕ) (x : Entry) → Ok fit room r l y x → d' x ≡ d x) → gather d' es ≡ gather d es
  list_same B d d' es h f = gather_eq d d' es (rises_all (Ok fit room r l) (λ x. d' x ≡ d x) top es (λ y x _ _ i. f y x i) h)

  pub pairs_same : Rooted fit room most top r l p → under s (suc l) (the p) ≡ under r (suc l) (the p)
  unfolding under
  pairs_same h = rw (same p l h.fits) (list_same Entry (under r l) (under s l) (r p (suc l)) h.rises (under_same fit room fit' r s keep same l))

  pub root_places_same : Rooted fit room most top r l p → places s (suc l) (the p) ≡ places r (suc l) (the p)
  unfolding places
  root_places_same h = rw (same p l h.fits) (ap (λ m. record { page = p; level = suc l } ∷ m)
      (list_same Place (places r l) (places s l) (r p (suc l)) h.rises (places_same fit room fit' r s keep same l)))

  tied_same : (spots : List Place) → All (λ x. (1 ≤ x.level) × fit x.level x.page) spots → Tied r spots
      → Tied s spots
  tied_same spots f t =
      all_map (λ x. ((1 ≤ x.level) × fit x.level x.page) × All (TiedTo r x) spots) (λ x. All (TiedTo s x) spots) spots
      (λ x h. all_map (TiedTo r x) (TiedTo s x) spots
      (λ y i e b. rw (node_same fit r s same x.page x.level h.0.0 h.0.1) (i e b)) h.1)
      (all_both (λ x. (1 ≤ x.level) × fit x.level x.page) (λ x. All (TiedTo r x) spots) spots f t)

  pub sound_same : Proper fit room most top r l p → Proper fit' room most top s l p
  sound_same h = record {
    rooted = rooted_same h.rooted;
    tied = subst (Tied s) (sym (root_places_same h.rooted))
        (tied_same (places r (suc l) (the p)) (root_fit fit room most r l p top h.rooted) h.tied);
  }
