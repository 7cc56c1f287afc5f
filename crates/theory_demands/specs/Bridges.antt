-- From the words of the demands to the theorems about images and updates, and back. Assumes nothing.
use Rattle.std.specs.Prelude.{◌≡◌, refl, List, [], ◌∷◌, ◌++◌, ℕ, suc, ◌+◌, ◌-◌, ◌*◌, ◌<◌, ◌≤◌, length, take}
use Rattle.std.proofs.Common.{ap, sym, subst, ◌∙◌, arith, mul-le-mul_right, length-append}
use Rattle.std.proofs.lemmas.List.{take-append-le}
use Rattle.geometry.specs.declared.Geometry.{Geometry}
use Rattle.geometry.specs.declared.Entry.{Entry}
use Rattle.geometry.specs.Shape.{Shape, shape_core}
use Rattle.geometry.specs.Bounds.{four_bytes}
use Rattle.model.specs.Image.{blocks_of, pages_of, Chip, chip_of}
use Rattle.model.specs.Tree.{map_of}
use Rattle.model.specs.Rules.{verdict}
use Rattle.model.specs.Stores.{Store, apply_store, apply_all}
use Rattle.theory_chips.specs.Next.{block_in}
use Rattle.theory_chips.specs.Whole.{some_page}
use Rattle.theory_images.specs.Held.{sound_held, held_sound}
use Rattle.model.specs.Legal.{Legal}
use Rattle.theory_images.specs.Lengths.{Blocks, good_blocks_lem, blocks_same, length_same, length_all, few_pages}
use Rattle.theory_updates.specs.Along.{Along, along_take, Keeps}
use Rattle.theory_updates.specs.Updated.{Updated}
use Rattle.theory_updates.specs.Lists.{program_most}
use Rattle.theory_nodes.specs.Entries.{Rises}
use Rattle.theory_chips.specs.Whole.{map_rises}
use Rattle.theory_demands.specs.Words.{Ready, map_at, Holds, Lawful, Kept}

module _ (g : Geometry) (shape : Shape g) (img : List ℕ) (ready : Ready g img) where
  abbrev n : ℕ
  n = blocks_of g img

  pub blocks : Blocks g img
  blocks = good_blocks_lem g img ready.length_good

  pub few : pages_of g n + g.pages < four_bytes
  few = few_pages g (shape_core g shape) n blocks.most

  pub some_pages : 1 ≤ pages_of g n
  some_pages = let w = block_in g.pages 2 n blocks.least in let z = some_page g (shape_core g shape) in
      omega (arith, w, z)

  pub ready_keeps : Keeps g n (map_at g img) img
  ready_keeps = let z = sound_held g shape n img (let w = blocks.least in
      omega (arith, w)) blocks.image ready.bytes ready.is_sound_lem in
      record { held = z.0; r7 = z.1; r8 = z.2; map_is = refl }

  -- the map's keys rise
  pub ready_rises : Rises (λ y x. Unit {0}) four_bytes (map_at g img)
  ready_rises = map_rises g n (chip_of g n img) ready_keeps.held.whole

  -- an image of the same length
  keeps_holds : (map : List Entry) (x : List ℕ) → length x ≡ length img → Keeps g n map x → Holds g map x
  keeps_holds map x e h =
      let b = blocks_same g img x e in
      record {
        ready = record {
          length_good = length_same g img x e ∙ ready.length_good;
          is_sound_lem = ap (λ m. verdict g m x) b ∙ held_sound g shape n x h.held h.r7 h.r8;
          bytes = h.held.bytes;
        };
        map_is = ap (λ m. map_of (chip_of g m x)) b ∙ h.map_is;
      }

pub along_lawful : (g : Geometry) (n : ℕ) (P : List ℕ → Type 0) (img : List ℕ) (ss : List Store) (s : Store)
    → Along g n P img ss
    → Legal g n (apply_all g ss img) s → Lawful g n img (ss ++ (s ∷ []))
unfolding Along Lawful apply_all
along_lawful g n P img [] s h l = (l, tt)
along_lawful g n P img (x ∷ ss) s h l = (h.1, along_lawful g n P (apply_store g x img) ss s h.2 l)

-- an update's list meets demand 3
pub updated_kept : (g : Geometry) (shape : Shape g) (img : List ℕ) (ready : Ready g img) (Z : Chip → Type 0)
    (old new : List Entry) (ss : List Store) (m : ℕ) → m ≤ g.top
    → Updated g (blocks_of g img) Z old new img ss (program_most g m) (suc m) → Kept g old new img ss
updated_kept g shape img ready Z old new ss m h u =
    let n = blocks_of g img in
    let e = u.list_is in
    let len = ap length e ∙ length-append u.init (u.last ∷ []) in
    let a : suc m * (g.pages - 1) ≤ (g.top + 1) * (g.pages - 1) = mul-le-mul_right (g.pages - 1)
    (let z : suc m ≤ g.top + 1 = omega (arith, h) in z) in
    record {
      lawful = subst (Lawful g n img) (sym e) (along_lawful g n (Keeps g n old) img u.init u.last u.along u.legal);
      before = λ j q. let f : take j ss ≡ take j u.init =
          ap (take j) e ∙ take-append-le j u.init (u.last ∷ []) (omega (arith, q, len)) in
          keeps_holds g shape img ready old (apply_all g (take j ss) img) (length_all g (take j ss) img)
          (subst (λ (x : List Store). Keeps g n old (apply_all g x img)) (sym f) (along_take g n (Keeps g n old) img u.init j u.along));
      end = keeps_holds g shape img ready new (apply_all g ss img) (length_all g ss img) u.end;
      programmed = let p = u.programmed in omega (arith, p, a, h);
      wiped = let w = u.wiped in omega (arith, w, h);
    }
