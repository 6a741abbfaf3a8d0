-- What settling comes to are its writes, beside what is kept in the end.
use Rattle.std.proofs.Common.{◌≡◌, List, [], Bool, true, false, refl, ◌∙◌, ap, Option, None, Some}
use Rattle.std.specs.Bool.{if◌then◌else◌}
use Rattle.pci_spec.specs.Machine.{Write}
use Rattle.pci_spec.specs.System.{System}
use Rattle.settle_spec.specs.Lists.{Request, are_bad_lists}
use Rattle.settle_spec.specs.Parts.{FunctionPart}
use Rattle.settle_spec.specs.Stands.{stands}
use Rattle.settle_spec.specs.Items.{PlacingItem}
use Rattle.judge_spec.specs.ToldRegion.{ToldRegion}
use Rattle.settle_spec.specs.Writes.{Settling, BadLists, Fixed, NoRoom, NotKept, Settled, or_fixed, or_lack, or_write, fixed_without, fixed_write}
use Rattle.settle_spec.specs.Kept.{Kept, as_it_stands, growing}
use Rattle.settle_spec.specs.Keeping.Places.{lacking}
use Rattle.settle_spec.specs.Keeping.Writes.{settle_writes, settle_keeping, is_not_reached, does_not_stay, would_be_switched, earliest, or_told, or_not_staying}
use Rattle.settle_spec.specs.Growing.{or_else, settle_growing, kept_by, finally_kept}
use Rattle.pci_settle.specs.Endings.{then_writes, after_lists}

said : Settling → List Write
said BadLists = []
said (Fixed slot register) = []
said (NotKept slot register) = []
said (NoRoom class slot register size alignment) = []
said (Settled writes) = writes

from_lists : (bad : Bool) (other : Settling) (writes : List Write) → (if bad then BadLists else other) ≡ Settled writes → other ≡ Settled writes
from_lists true other writes is = cc
from_lists false other writes is = is

from_fixed : (o : Option FunctionPart) (other : Settling) (writes : List Write) → or_fixed o other ≡ Settled writes → other ≡ Settled writes
from_fixed None other writes is = is
from_fixed (Some r) other writes is = cc

from_told : (o : Option ToldRegion) (other : Settling) (writes : List Write) → or_told o other ≡ Settled writes → other ≡ Settled writes
from_told None other writes is = is
from_told (Some x) other writes is = cc

from_lack : (o : Option PlacingItem) (other : Settling) (writes : List Write) → or_lack o other ≡ Settled writes → other ≡ Settled writes
from_lack None other writes is = is
from_lack (Some i) other writes is = cc

from_write : (o : Option Write) (other : Settling) (writes : List Write) → or_write o other ≡ Settled writes → other ≡ Settled writes
from_write None other writes is = is
from_write (Some w) other writes is = cc

pub writes_beside : (q : Request) (s : System) (keep : Kept) (writes : List Write) → settle_keeping q s keep ≡ Settled writes → settle_writes q s keep ≡ writes
unfolding said
writes_beside q s keep writes is =
    let all : List Write = settle_writes q s keep in
    let told : Settling = or_told (earliest q (would_be_switched q s keep)) (Settled all) in
    let lack : Settling = or_lack (lacking q s keep) (then_writes q s keep all) in
    let stay : Settling = or_fixed (fixed_without keep.stays q s) lack in
    let stand : Settling = or_fixed (fixed_without (stands q s) q s) (or_not_staying q s keep lack) in
    ap said (from_told (earliest q (would_be_switched q s keep)) (Settled all) writes
    (from_write (fixed_write q all) told writes (from_lack (lacking q s keep) (then_writes q s keep all) writes
    (from_fixed (fixed_without keep.stays q s) lack writes (from_told (earliest q (does_not_stay q s keep)) stay writes
    (from_fixed (fixed_without (stands q s) q s) (or_not_staying q s keep lack) writes (from_told (earliest q (is_not_reached q s)) stand writes
    (from_lists (are_bad_lists q.roots q.lists) (after_lists q s keep) writes is))))))))

-- of what is kept in the end
written_by : (q : Request) (s : System) (writes : List Write) (o : Settling) → settle_keeping q s (growing q s) ≡ o → or_else o (settle_keeping q s (as_it_stands q s)) ≡ Settled writes
    → settle_writes q s (kept_by o (growing q s) (as_it_stands q s)) ≡ writes
written_by q s writes (Settled own) e is = writes_beside q s (growing q s) writes (e ∙ is)
written_by q s writes BadLists e is = writes_beside q s (as_it_stands q s) writes is
written_by q s writes (Fixed slot register) e is = writes_beside q s (as_it_stands q s) writes is
written_by q s writes (NoRoom class slot register size alignment) e is = writes_beside q s (as_it_stands q s) writes is
written_by q s writes (NotKept slot register) e is = writes_beside q s (as_it_stands q s) writes is

pub settled_writes : (q : Request) (s : System) (writes : List Write) → settle_growing q s ≡ Settled writes → settle_writes q s (finally_kept q s) ≡ writes
settled_writes q s writes is = written_by q s writes (settle_keeping q s (growing q s)) refl is
