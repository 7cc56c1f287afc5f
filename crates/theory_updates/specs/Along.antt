-- A list of stores, store by store: what holds before and after each. Assumes nothing.
use Rattle.std.specs.Prelude.{◌≡◌, ℕ, zero, suc, ◌+◌, ◌<◌, ◌≤◌, take}
use Rattle.std.proofs.Math.Path.{refl, ap}
use Rattle.std.proofs.Common.{◌∙◌}
use mathlib.Core.List.{List, [], ◌∷◌, ◌++◌}
use Rattle.std.proofs.Math.Logic.{inl}
use native.Mathlib.Omega.{arith}
use Rattle.geometry.specs.declared.Geometry.{Geometry}
use Rattle.geometry.specs.declared.Entry.{Entry}
use Rattle.geometry.specs.Shape.{Shape, shape_core}
use Rattle.model.specs.Count.{count}
use Rattle.model.specs.Image.{pages_of, max_seq, Chip, chip_of}
use Rattle.model.specs.Tree.{map_of, Place, live}
use Rattle.model.specs.Next.{ahead, next_page}
use Rattle.model.specs.Stores.{Store, apply_store, apply_all, programs, erases}
use Rattle.chip_store.specs.Runs.{all_append, programs_append, erases_append}
use Rattle.theory_chips.specs.Collect.{R7, R8}
use Rattle.theory_images.specs.Views.{beside}
use Rattle.theory_images.specs.Built.{Parts, built_view}
use Rattle.theory_images.specs.Held.{Held}
use Rattle.model.specs.Legal.{Legal}
use Rattle.theory_images.specs.Writes.{next_store, put_legal}
use Rattle.theory_images.proofs.Writes.{put_max, side_chip, side_held, side_map, side_lives, side_frees}

-- P before and after each store, each store legal
unfoldable pub Along : Geometry → ℕ → (List ℕ → Type 0) → List ℕ → List Store → Type 0
Along g n P img [] = P img
Along g n P img (s ∷ ss) = P img × Legal g n img s × Along g n P (apply_store g s img) ss

pub along_append : (g : Geometry) (n : ℕ) (P : List ℕ → Type 0) (img : List ℕ) (ss ts : List Store) → Along g n P img ss
    → Along g n P (apply_all g ss img) ts → Along g n P img (ss ++ ts)
unfolding Along apply_all
along_append g n P img [] ts h k = k
along_append g n P img (s ∷ ss) ts h k = (h.0, h.1, along_append g n P (apply_store g s img) ss ts h.2 k)

along_end : (g : Geometry) (n : ℕ) (P : List ℕ → Type 0) (img : List ℕ) (ss : List Store) → Along g n P img ss
    → P (apply_all g ss img)
unfolding Along apply_all
along_end g n P img [] h = h
along_end g n P img (s ∷ ss) h = along_end g n P (apply_store g s img) ss h.2

-- so after each beginning of the list
pub along_take : (g : Geometry) (n : ℕ) (P : List ℕ → Type 0) (img : List ℕ) (ss : List Store) (m : ℕ)
    → Along g n P img ss
    → P (apply_all g (take m ss) img)
unfolding Along apply_all
along_take g n P img [] zero h = h
along_take g n P img [] (suc m) h = h
along_take g n P img (s ∷ ss) zero h = h.0
along_take g n P img (s ∷ ss) (suc m) h = along_take g n P (apply_store g s img) ss m h.2

-- what holds of every image on the way, the map being base
pub record Keeps (g : Geometry) (n : ℕ) (base : List Entry) (img : List ℕ) : Type 0 where
  pub held : Held g n img
  pub r7 : R7 g n (chip_of g n img)
  pub r8 : R8 g n (chip_of g n img)
  pub map_is : map_of (chip_of g n img) ≡ base

-- the stores ss lead from img to the chip d, with at most b programs and e erases
pub record Runs (g : Geometry) (n : ℕ) (base : List Entry) (img : List ℕ) (ss : List Store)
    (d : Chip) (b e : ℕ) : Type 0 where
  pub along : Along g n (Keeps g n base) img ss
  pub chip_is : chip_of g n (apply_all g ss img) ≡ d
  pub grows : max_seq g n (apply_all g ss img) ≤ max_seq g n img + programs ss
  pub programmed : programs ss ≤ b
  pub wiped : erases ss ≤ e

module _ (g : Geometry) (n : ℕ) (base : List Entry) where
  pub runs_end : (img : List ℕ) (ss : List Store) (d : Chip) (b e : ℕ) → Runs g n base img ss d b e
      → Keeps g n base (apply_all g ss img)
  runs_end img ss d b e r = along_end g n (Keeps g n base) img ss r.along

  pub runs_none : (img : List ℕ) (b e : ℕ) → Keeps g n base img → Runs g n base img [] (chip_of g n img) b e
  unfolding Along apply_all programs erases
  runs_none img b e h = record { along = h; chip_is = refl; grows = omega arith; programmed = omega arith; wiped = omega arith }

  pub runs_then : (img : List ℕ) (ss ts : List Store) (c d : Chip) (a b e f : ℕ) → Runs g n base img ss c a e
      → Runs g n base (apply_all g ss img) ts d b f → Runs g n base img (ss ++ ts) d (a + b) (e + f)
  runs_then img ss ts c d a b e f h k = record {
    along = along_append g n (Keeps g n base) img ss ts h.along k.along;
    chip_is = rw (all_append g ss ts img) k.chip_is;
    grows = rw (all_append g ss ts img) (omega (arith, h.grows, k.grows, programs_append ss ts));
    programmed = omega (arith, programs_append ss ts, h.programmed, k.programmed);
    wiped = omega (arith, erases_append ss ts, h.wiped, k.wiped);
  }

  pub runs_as : (img : List ℕ) (ss : List Store) (c d : Chip) (a b e f : ℕ) → c ≡ d → a ≤ b → e ≤ f
      → Runs g n base img ss c a e
      → Runs g n base img ss d b f
  runs_as img ss c d a b e f z p q r = record {
    along = r.along;
    chip_is = r.chip_is ∙ z;
    grows = r.grows;
    programmed =
        omega (arith, r.programmed, p);
    wiped = omega (arith, r.wiped, q);
  }

  -- one page without a root
  pub side_runs : Shape g → (img : List ℕ) → Keeps g n base img → (parts : ℕ → List Entry) → Parts g parts
      → g.pages + 1 ≤ count (pages_of g n) (chip_of g n img).er → suc (max_seq g n img) < 4294967295
      → Runs g n base img (next_store g n 0 parts img ∷ [])
      (beside (chip_of g n img) (next_page g.pages n (ahead g n (chip_of g n img))) (built_view g (suc (max_seq g n img)) 0 parts)) 1 0
  unfolding Along apply_all programs erases next_store
  side_runs shape img h parts ok f low =
      let free : 1 ≤ count (pages_of g n) (chip_of g n img).er = omega (arith, f) in
      let sf = side_frees g (shape_core g shape) n img h.held free parts ok low 0 (omega arith) refl in
      let mx = put_max g (shape_core g shape) n img h.held free parts ok low 0 (omega arith) in
      let end : Keeps g n base (apply_store g (next_store g n 0 parts img) img) = record {
        held = side_held g (shape_core g shape) n img h.held free parts ok low 0 (omega arith) refl;
        r7 = inl (omega (arith, f, sf));
        r8 = (let z = ap (λ (x : List Place). count (pages_of g n) (live x)) (side_lives g (shape_core g shape) n img
            h.held free parts ok low 0 (omega arith) refl) in
            omega (arith, z, h.r8));
        map_is = side_map g (shape_core g shape) n img h.held free parts ok low 0 (omega arith) refl ∙ h.map_is;
      } in
      record {
        along = (h, put_legal g (shape_core g shape) n img h.held free parts ok low 0 (omega arith), end);
        chip_is = side_chip g (shape_core g shape) n img h.held free parts ok low 0 (omega arith) refl;
        grows = omega (arith, mx);
        programmed = omega arith;
        wiped = omega arith;
      }
