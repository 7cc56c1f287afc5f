-- R6 in the plain tree: every new node has a page of its own, and an old node keeps its page's content. Assumes
-- nothing.
use Rattle.std.specs.Prelude.{◌≡◌, List, ◌⊎◌, ℕ, zero, suc, ◌≤◌}
use Rattle.std.proofs.Common.{sym, subst, inl, inr, arith}
use Rattle.model.specs.Image.{Nodes}
use Rattle.model.specs.Tree.{Place}
use Rattle.theory_lists.specs.All.{All, Mem, all_map}
use Rattle.theory_nodes.specs.Tied.{TiedTo, Tied}
use Rattle.theory_trees.specs.Tied.{live_tied}
use Rattle.theory_trees.specs.Proper.{LiveAt}

-- a page that fits and is live
abbrev pub LiveFit : (ℕ → ℕ → Type 0) → List Place → ℕ → ℕ → Type 0
LiveFit fit spots j q = fit j q × LiveAt spots j q

-- a place is new, or an old one whose page keeps its content; N l q: q is a new page of level l
abbrev pub PlainWhere : (ℕ → ℕ → Type 0) → (ℕ → ℕ → Type 0) → List Place → Place → Type 0
PlainWhere fit N spots x = N x.level x.page ⊎ ((1 ≤ x.level) × LiveFit fit spots x.level x.page)

module _ (r s : Nodes) (fit N : ℕ → ℕ → Type 0) (same : (q l : ℕ) → fit (suc l) q → s q (suc l) ≡ r q (suc l))
    (alone : (i j p : ℕ) → N i p → N j p → i ≡ j) (fresh : (i l q : ℕ) → N i q → fit (suc l) q → ⊥) where
  not_old : (i l p q : ℕ) → 1 ≤ l → N i p → fit l q → p ≡ q → ⊥
  not_old i zero p q b h f e = absurd (omega arith)
  not_old i (suc l) p q b h f e = fresh i l q (subst (N i) e h) f

  at_mem : (spots : List Place) (q j : ℕ) → 1 ≤ j → LiveAt spots j q → Mem (record { page = q; level = j }) spots
  at_mem spots q zero b m = absurd (omega arith)
  at_mem spots q (suc j) b m = m

  pub plain_tied : (spots new : List Place) → Tied r spots → All (PlainWhere fit N spots) new → Tied s new
  plain_tied spots new t h = all_map (PlainWhere fit N spots) (λ x. All (TiedTo s x) new) new
      (λ x i. all_map (PlainWhere fit N spots) (TiedTo s x) new (λ y j. pair x y i j) h) h
    where
      pair : (x y : Place) → PlainWhere fit N spots x → PlainWhere fit N spots y → TiedTo s x y
      pair x y (inl i) (inl j) e b = absurd (omega (arith, alone x.level y.level y.page (subst (N x.level) e i) j, b))
      pair x y (inl i) (inr j) e b = absurd (not_old x.level y.level x.page y.page j.0 i j.1.0 e)
      pair x y (inr i) (inl j) e b = absurd (not_old y.level x.level y.page x.page i.0 j i.1.0 (sym e))
      pair x y (inr i) (inr j) e b = live_tied r s spots t fit same x y (at_mem spots x.page x.level i.0 i.1.1, i.1.0)
          (at_mem spots y.page y.level j.0 j.1.1, j.1.0) e b
