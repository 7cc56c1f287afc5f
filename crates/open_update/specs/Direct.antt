-- An update's stores without collection, and when nothing is in question. Definitions alone; assumes nothing.
use Rattle.std.specs.Prelude.{ℕ, ◌+◌, ◌-◌, ◌*◌, List, leb}
use Rattle.geometry.specs.declared.Geometry.{Geometry}
use Rattle.geometry.specs.Tests.{pick}
use Rattle.open_record.specs.declared.Opened.{Opened}
use Rattle.live_beside.specs.Update.{Returned, made_by}
use Rattle.call_update.specs.declared.Update.{Update}
use Rattle.call_update.specs.Update.{own_for, crest_for}

-- what the own stores leave, without collection
unfoldable pub direct_for : Update → Geometry → ℕ → ℕ → Opened → List ℕ → List ℕ → ℕ → Returned
direct_for u g n m o i old x = made_by g n (own_for u g n m o i) o m (crest_for u g n m o i) x i old

-- with so many erased pages nothing is collected for m pages, and ROOM is not asked
unfoldable pub plenty_for : Geometry → ℕ → ℕ
plenty_for g m = pick (leb m 1) (g.pages + m) (2 * g.pages - 1 + m)
