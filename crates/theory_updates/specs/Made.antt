-- Stores that are legal program erased pages only, so a list of them loses nothing by the careful test. Assumes
-- nothing.
use Rattle.std.specs.Prelude.{◌≡◌, List, [], ◌∷◌, ◌++◌, ℕ, leb, length, take}
use Rattle.std.proofs.Common.{ap, sym, subst, ◌∙◌, arith, length-append, length-take, take_all, le-leb}
use Rattle.std.proofs.lemmas.List.{take-append-le}
use Rattle.std.proofs.lemmas.Bool.{lt-leb}
use Rattle.geometry.specs.declared.Geometry.{Geometry}
use Rattle.geometry.specs.declared.Entry.{Entry}
use Rattle.model.specs.Image.{Chip}
use Rattle.model.specs.Stores.{Store, program, erase, apply_store, apply_all}
use Rattle.model.specs.Legal.{Legal}
use Rattle.chip_store.specs.Careful.{made_of, Cautious}
use Rattle.chip_store.specs.Cautious.{cautious_careful}
use Rattle.theory_counts.specs.Cases.{by_le}
use Rattle.theory_images.specs.Held.{Held}
use Rattle.theory_updates.specs.Along.{Along, along_take, Keeps}
use Rattle.theory_updates.specs.Updated.{Updated}

-- a run and one store more
pub along_cautious : (g : Geometry) (n : ℕ) (P : List ℕ → Type 0) (img : List ℕ) (ss : List Store) (s : Store)
    → Along g n P img ss
    → Legal g n (apply_all g ss img) s → Cautious g (ss ++ (s ∷ [])) img
unfolding Along Legal Cautious apply_all
along_cautious g n P img [] (program p bs) h l = (l.2, tt)
along_cautious g n P img [] (erase b) h l = tt
along_cautious g n P img (program p bs ∷ ss) s h l =
    (h.1.2, along_cautious g n P (apply_store g (program p bs) img) ss s h.2 l)
along_cautious g n P img (erase b ∷ ss) s h l = along_cautious g n P (apply_store g (erase b) img) ss s h.2 l

module _ (g : Geometry) (n : ℕ) (Z : Chip → Type 0) (old new : List Entry) (img : List ℕ) (ss : List Store) (b e : ℕ)
    (u : Updated g n Z old new img ss b e) where
  pub updated_cautious : Cautious g ss img
  updated_cautious = subst (λ (x : List Store). Cautious g x img) (sym u.list_is)
      (along_cautious g n (Keeps g n old) img u.init u.last u.along u.legal)

  -- what is held after each beginning of the list, the whole list too
  pub updated_held : (j : ℕ) → Held g n (apply_all g (take j ss) img)
  updated_held j = by_le (length ss) j
      (λ q. subst (λ (x : List Store). Held g n (apply_all g x img)) (sym (take_all j ss q)) u.end.held)
      (λ q.
      let len = ap length u.list_is ∙ length-append u.init (u.last ∷ []) in
      let f : take j ss ≡ take j u.init = ap (take j) u.list_is
      ∙ take-append-le j u.init (u.last ∷ []) (omega (arith, q, len)) in
      subst (λ (x : List Store). Held g n (apply_all g x img)) (sym f) (along_take g n (Keeps g n old) img u.init j u.along).held)

-- what is made of such a list, and whether all is
pub made_is : (g : Geometry) (ss : List Store) (al : ℕ) (img : List ℕ) → Cautious g ss img
    → made_of g ss al img ≡ take al ss
made_is g ss al img c = ap (take al) (cautious_careful g ss img c)

pub all_made : (ss : List Store) (al : ℕ) → leb (length ss) (length (take al ss)) ≡ leb (length ss) al
all_made ss al = by_le (length ss) al
    (λ q. let z = length-take al ss in le-leb (length ss) (length (take al ss)) (omega (arith, z, q))
    ∙ sym (le-leb (length ss) al q))
    (λ q. let z = length-take al ss in lt-leb (length ss) (length (take al ss)) (omega (arith, z, q))
    ∙ sym (lt-leb (length ss) al q))
