-- R6 in its short form, kept by what an update changes. Assumes nothing.
use Rattle.std.specs.Prelude.{◌≡◌, List, ◌⊎◌, ℕ, suc, ◌<◌, ◌≤◌}
use Rattle.std.proofs.Common.{sym, subst, ◌∙◌, inl, inr, arith}
use Rattle.model.specs.Image.{Nodes}
use Rattle.model.specs.Tree.{Place}
use Rattle.theory_lists.specs.All.{All, Some, Mem, all_map, all_get}
use Rattle.theory_nodes.specs.Nodes.{node_same}
use Rattle.theory_nodes.specs.Tied.{TiedTo, Tied}

-- where a place of a new tree is: on the path's page n, its lowest level there low; alone on a side page; or an old one
abbrev pub Where : Nodes → ℕ → ℕ → (ℕ → ℕ) → (ℕ → Type 0) → (Place → Type 0) → Place → Type 0
Where s n low side Cut Old x = ((x.page ≡ n) × (low ≤ x.level) × (low < x.level → Some (λ e. e.addr ≡ n) (s n x.level))) ⊎
    ((Cut x.level × (x.page ≡ side x.level)) ⊎ Old x)

module _ (s : Nodes) (n low : ℕ) (side : ℕ → ℕ) (Cut : ℕ → Type 0) (Old : Place → Type 0)
    (old-n : (x : Place) → Old x → x.page ≡ n → ⊥) (old-side : (x : Place) (l : ℕ) → Old x → Cut l → x.page ≡ side l
    → ⊥)
    (side-n : (l : ℕ) → Cut l → side l ≡ n → ⊥) (side_inj : (i j : ℕ) → Cut i → Cut j → side i ≡ side j → i ≡ j)
    (old-tied : (x y : Place) → Old x → Old y → TiedTo s x y) where
  pair : (x y : Place) → Where s n low side Cut Old x → Where s n low side Cut Old y → TiedTo s x y
  pair x y (inl h) (inl i) e b = subst (λ q. Some (λ e. e.addr ≡ q) (s q x.level)) (sym h.0) (h.2 (omega (arith, i.1)))
  pair x y (inl h) (inr (inl i)) e b = absurd (side-n y.level i.0 (sym i.1 ∙ sym e ∙ h.0))
  pair x y (inl h) (inr (inr i)) e b = absurd (old-n y i (sym e ∙ h.0))
  pair x y (inr (inl h)) (inl i) e b = absurd (side-n x.level h.0 (sym h.1 ∙ e ∙ i.0))
  pair x y (inr (inl h)) (inr (inl i)) e b =
      absurd (omega (arith, side_inj x.level y.level h.0 i.0 (sym h.1 ∙ e ∙ i.1)))
  pair x y (inr (inl h)) (inr (inr i)) e b = absurd (old-side y x.level i h.0 (sym e ∙ h.1))
  pair x y (inr (inr h)) (inl i) e b = absurd (old-n x h (e ∙ i.0))
  pair x y (inr (inr h)) (inr (inl i)) e b = absurd (old-side x y.level h i.0 (e ∙ i.1))
  pair x y (inr (inr h)) (inr (inr i)) e b = old-tied x y h i e b

  pub tied_new : (spots : List Place) → All (Where s n low side Cut Old) spots → Tied s spots
  tied_new spots h = all_map (Where s n low side Cut Old) (λ x. All (TiedTo s x) spots) spots
      (λ x i. all_map (Where s n low side Cut Old) (TiedTo s x) spots (λ y j. pair x y i j) h) h

-- an old place: live in the old tree, and its page keeps its content
module _ (r s : Nodes) (spots : List Place) (t : Tied r spots) (fit : ℕ → ℕ → Type 0)
    (same : (q l : ℕ) → fit (suc l) q → s q (suc l) ≡ r q (suc l)) where
  abbrev pub Live : Place → Type 0
  Live x = Mem x spots × fit x.level x.page

  pub live_tied : (x y : Place) → Live x → Live y → TiedTo s x y
  live_tied x y h i e b = rw (node_same fit r s same x.page x.level (omega (arith, b)) h.1)
      (all_get (TiedTo r x) y spots (all_get (λ x. All (TiedTo r x) spots) x spots t h.0) i.0 e b)
