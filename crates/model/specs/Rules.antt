-- "A sound image": R1 to R7 and, by request 11, R8, one by one, each with the page that request 5 of document 02 names,
-- and the verdict: the first broken rule. Definitions alone; assumes nothing.
use Rattle.std.specs.Prelude.{ℕ, zero, suc, ◌+◌, ◌-◌, ◌*◌, Bool, true, false, not, List, [], ◌∷◌, eqb, leb, ltb, length, Err}
use Rattle.geometry.specs.declared.Geometry.{Geometry}
use Rattle.geometry.specs.declared.Entry.{Entry}
use Rattle.geometry.specs.Findings.{Finding, Good, Bad, Verdict, Sound, broken_at}
use Rattle.geometry.specs.Geometry.{halves, page_base, slots_of, root_most}
use Rattle.geometry.specs.Tests.{pick, ◌&◌}
use Rattle.model.specs.Bytes.{erased, seq_at, height_at, tail_at}
use Rattle.model.specs.Codes.{codes_fit}
use Rattle.model.specs.Count.{count, least, any}
use Rattle.model.specs.Image.{Nodes, Chip, chip_of, pages_of, height_of, root_of}
use Rattle.model.specs.Tree.{following, Place, places_of, live, low_level, live_pages}
use Rattle.model.specs.Next.{mixed, full, first_in, in_block}

-- the least page below t that a test finds bad
unfoldable pub lowest : ℕ → (ℕ → Bool) → Finding
lowest t f = pick (any t f) (Bad (least t f)) Good

-- a finding where the test fails, else what comes next
unfoldable pub unless : Bool → ℕ → Finding → Finding
unless true p v = v
unless false p v = Bad p

-- the first of two findings that is bad
unfoldable pub first : Finding → Finding → Finding
first Good v = v
first (Bad p) v = Bad p

-- R1: erased, or byte 4 is 0 to 5, the bytes after the codes are 255, the number isn't 0 and, by request 4, the codes
-- fit
unfoldable pub well_formed : Geometry → List ℕ → ℕ → Bool
well_formed g img p = pick (erased g img p) true
    (leb (height_at g img p) g.top & tail_at g img p & leb 1 (seq_at g img p) & codes_fit g img (page_base g p) (halves g))

unfoldable pub r1 : Geometry → ℕ → List ℕ → Finding
r1 g n img = lowest (pages_of g n) (λ p. not (well_formed g img p))

-- R2: in a block programmed pages come before erased ones: none comes after the first erased one
unfoldable pub in_order : ℕ → (ℕ → Bool) → ℕ → Bool
in_order p er b = not (any p (λ j. ltb (first_in p er b) j & not (er (p * b + j))))

-- R2: at most one block has both; the second one that has
unfoldable pub second_mixed : ℕ → ℕ → (ℕ → Bool) → ℕ
second_mixed p n er = least n (λ b. mixed p er b & not (eqb b (least n (mixed p er))))

-- R2: the first erased page before a programmed one, or else the first programmed page of the second mixed block
unfoldable pub r2 : ℕ → ℕ → (ℕ → Bool) → Finding
r2 p n er = unless (leb n (least n (λ b. not (in_order p er b))))
    (p * least n (λ b. not (in_order p er b)) + first_in p er (least n (λ b. not (in_order p er b))))
    (unless (leb n (second_mixed p n er)) (p * second_mixed p n er) Good)

-- R3: sequence numbers of programmed pages differ; a page whose number a lower one has
unfoldable pub repeated : (ℕ → Bool) → (ℕ → ℕ) → ℕ → Bool
repeated er seq p = not (er p) & any p (λ q. not (er q) & eqb (seq q) (seq p))

unfoldable pub r3 : Geometry → ℕ → List ℕ → Finding
r3 g n img = lowest (pages_of g n) (repeated (erased g img) (seq_at g img))

-- R4: some page has byte 4 of 1 or more, that is, the page taken for the root's has
unfoldable pub r4 : Geometry → ℕ → List ℕ → Finding
r4 g n img = unless (leb 1 (height_of g img (root_of g n img))) 0 Good

-- R5: what an entry at level l may name: in a leaf anything, above a programmed page below T
unfoldable pub names : (ℕ → Bool) → ℕ → ℕ → ℕ → Bool
names er t l a = pick (eqb l 1) true (ltb a t & not (er a))

-- R5: keys rise strictly from lo on and stay below hi, and each address may be named
unfoldable pub rising : (ℕ → Bool) → List Entry → ℕ → ℕ → Bool
rising ok [] lo hi = true
rising ok (e ∷ es) lo hi = leb lo e.key & ltb e.key hi & ok e.addr & rising ok es (e.key + 1) hi

-- R5: a node below the root: its own count, keys and page numbers
unfoldable pub own : Geometry → (ℕ → Bool) → Nodes → ℕ → ℕ → ℕ → ℕ → ℕ → Bool
own g er r t l p lo hi =
    leb 1 (length (r p l)) & leb (length (r p l)) (slots_of g l) & rising (names er t l) (r p l) lo hi

-- R5: the root's own: a level 1 root may have 0 entries, one at level 2 or above has at least 2
unfoldable pub own_root : Geometry → (ℕ → Bool) → Nodes → ℕ → ℕ → ℕ → Bool
own_root g er r t l p =
    leb (pick (eqb l 1) 0 2) (length (r p l)) & leb (length (r p l)) (root_most g l) & rising (names er t l) (r p l) 0 4294967296

-- "A node is judged by its entries and each entry by the node below it, turn about, the level falling":
-- all keys under entry i are at least its key and below that of entry i+1. The first bad node's page, each node before
-- its subtrees and those left to right
unfoldable pub judge_entries : (ℕ → ℕ → ℕ → Finding) → List Entry → ℕ → Finding
judge_entries sub [] hi = Good
judge_entries sub (e ∷ es) hi = first (sub e.addr e.key (following es hi)) (judge_entries sub es hi)

unfoldable pub judge_node : Geometry → (ℕ → Bool) → Nodes → ℕ → ℕ → ℕ → ℕ → ℕ → Finding
judge_node g er r t zero p lo hi = Good
judge_node g er r t (suc l) p lo hi =
    unless (own g er r t (suc l) p lo hi) p (judge_entries (judge_node g er r t l) (r p (suc l)) hi)

-- R5: from the root down
unfoldable pub r5 : Geometry → ℕ → Chip → Finding
r5 g t c = unless (own_root g c.er c.nodes t (suc c.level) c.root) c.root
    (judge_entries (judge_node g c.er c.nodes t c.level) (c.nodes c.root (suc c.level)) 4294967296)

-- some entry names page p
unfoldable pub names_page : ℕ → List Entry → Bool
names_page p [] = false
names_page p (e ∷ es) = pick (eqb e.addr p) true (names_page p es)

-- R6: a live node above another live node of its page, without an entry that names this page.
-- (That the levels follow one another is then so: an entry that names the page makes the level below live.)
unfoldable pub loose : Nodes → List Place → Place → Bool
loose r all x = ltb (low_level all x.page) x.level & not (names_page x.page (r x.page x.level))

-- the lowest page of the places that pass, or t
unfoldable pub lowest_page : (Place → Bool) → List Place → ℕ → ℕ
lowest_page f [] t = t
lowest_page f (x ∷ xs) t = lowest_page f xs (pick (f x & ltb x.page t) x.page t)

unfoldable pub r6 : ℕ → Chip → Finding
r6 t c = unless (leb t (lowest_page (loose c.nodes (places_of c)) (places_of c) t)) (lowest_page (loose c.nodes (places_of c)) (places_of c) t) Good

-- R7: at least 32 pages are erased, or some block without erased pages has no more live pages than the image has erased
-- ones
unfoldable pub spare_room : ℕ → ℕ → Chip → Bool
spare_room p n c = pick (leb p (count (p * n) c.er)) true
    (any n (λ b. full p c.er b & leb (in_block p (live (places_of c)) b) (count (p * n) c.er)))

unfoldable pub r7 : ℕ → ℕ → Chip → Finding
r7 p n c = unless (spare_room p n c) 0 Good

-- R8: T − L is at least 64, twice a block's pages
unfoldable pub ample : ℕ → ℕ → Bool
ample p free = leb (2 * p) free

unfoldable pub r8 : ℕ → ℕ → Chip → Finding
r8 p n c = unless (ample p (p * n - live_pages (p * n) c)) 0 Good

-- the first broken rule and its page
unfoldable pub or_else : ℕ → Finding → Verdict → Verdict
or_else rule Good v = v
or_else rule (Bad p) v = broken_at rule p

-- R7 and R8 are asked of a μ-Tree: by request 12 the sound images of the plain tree, table 2, "keep R1 to R6"
unfoldable pub asked : Geometry → Finding → Finding
asked g f = pick (eqb g.table 2) Good f

-- R1 to R8 in their order
unfoldable pub verdict : Geometry → ℕ → List ℕ → Verdict
verdict g n img =
    or_else 1 (r1 g n img) (or_else 2 (r2 g.pages n (erased g img)) (or_else 3 (r3 g n img) (or_else 4 (r4 g n img)
    (or_else 5 (r5 g (pages_of g n) (chip_of g n img)) (or_else 6 (r6 (pages_of g n) (chip_of g n img))
    (or_else 7 (asked g (r7 g.pages n (chip_of g n img))) (or_else 8 (asked g (r8 g.pages n (chip_of g n img))) Sound)))))))

abbrev pub is_sound : Verdict → Bool
is_sound Sound = true
is_sound (Err b) = false
