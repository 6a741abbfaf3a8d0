-- Regions in what a bridge takes, and their lines.
use Rattle.std.proofs.Common.{◌≡◌, List, ◌++◌, [], ◌∷◌, codes, refl, false, lit<}
use Rattle.std.specs.Fmt.{digits}
use Rattle.pci_spec.specs.Window.{WindowKind, IoWindow, MemoryWindow, PrefetchWindow}
use Rattle.pci_spec.specs.System.{Function, System, Io, Memory, Bar, Rom}
use Rattle.pci_spec.specs.Why.{scaled_text}
use Rattle.pci_spec.proofs.Examples.Samples.{slot, range, device, bridge}
use Rattle.judge_spec.specs.Given.{nothing_given}
use Rattle.judge_spec.proofs.Examples.Unclaimed.{taking}
use Rattle.judge_spec.specs.Regions.{MapRegion}
use Rattle.judge_spec.specs.Lines.{StandsBehind, is_first_window, End, Free, Sits}
use Rattle.judge_spec.specs.Map.{MapTaking}
use Rattle.judge_spec.specs.MapText.{indent, lines_text, root_text}
use Rattle.judge_spec.proofs.MapExamples.Samples.{line, own, untaken}

abbrev above : Function
above = bridge (slot 0 30 0) 2 0x010100 ((0x20, 0x0000fff0) ∷ []) []

abbrev behind : Function
behind = device (slot 1 0 0) 2 ((0x10, 0xe0001000) ∷ []) ((0x10, 0xfffff000) ∷ [])

abbrev s : System
s = above ∷ behind ∷ []

abbrev bar : MapRegion
bar = own (slot 1 0 0) 0x10 (Bar 0) Memory false 0xe0001000 0xe0001fff

none_holds : (kind : WindowKind) → is_first_window (taking (slot 0 30 0)) Memory kind 0xe0001000 above ≡ false
none_holds IoWindow = refl
none_holds MemoryWindow = refl
none_holds PrefetchWindow = refl

-- it stands there where the bridge takes its first address, and a window doesn't hold it
stands : StandsBehind (taking (slot 0 30 0)) s (slot 0 30 0) bar
stands = record {
  b = above;
  listed = (0, lit< tt, refl);
  bridge = refl;
  at = refl;
  leads = refl;
  taken = refl;
  no_window = none_holds;
}

-- ---- texts: what a bridge takes stands below its slot, behind the other lines of the root bus

abbrev taken : List MapTaking
taken = record { slot = slot 0 30 0; lines = Sits bar End End } ∷ record { slot = slot 2 0 0; lines = Sits (own (slot 5 0 0) 0x30 Rom Memory false 0xd0000000 0xd00fffff) End End } ∷ []

below_its_bridge : root_text nothing_given (record { bus = 0; io = untaken End; memory = record { lines = End; taken = taken } })
    ≡ line (codes "bus 00 mem")
    ++ line (codes "  unclaimed 00:1e.0")
    ++ line (codes "    00000000e0001000-00000000e0001fff 4K bar 01:00.0 10")
    ++ line (codes "  unclaimed 02:00.0")
    ++ line (codes "    00000000d0000000-00000000d00fffff 1M rom 05:00.0 30")
unfolding indent lines_text scaled_text digits
below_its_bridge = refl

behind_other_lines : root_text nothing_given (record {
  bus = 0x40;
  io = record { lines = Free (range 0x1000 0x1fff) End; taken = record { slot = slot 0x40 1 7; lines = Sits (own (slot 0x41 0 0) 0x18 (Bar 2) Io false 0x3f8 0x3ff) End End } ∷ [] };
  memory = untaken End;
})
    ≡ line (codes "bus 40 io")
    ++ line (codes "  00001000-00001fff 4K free")
    ++ line (codes "  unclaimed 40:01.7")
    ++ line (codes "    000003f8-000003ff 8 bar 41:00.0 18")
unfolding indent lines_text scaled_text digits
behind_other_lines = refl
