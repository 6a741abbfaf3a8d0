use Rattle.std.proofs.Common.{Some, None, refl}
use Rattle.pci_picture.proofs.Depths.{put_in_section, put_lost}
use Rattle.pci_picture.proofs.Headings.{put_kept}
use Rattle.pci_picture.proofs.map.Reader.put.Goals as goal

pub returns-in_ok-push-in-Section-clause-taken : goal.returns-in_ok-push-in-Section-clause-taken
returns-in_ok-push-in-Section-clause-taken g c =
    put_kept c.args.self.now.heading c.args.self.now.map (record { lines = c.push.new.self; off = c.args.self.now.map.off })
    (record { section = Some c.in-Section.number; top = c.args.self.now.top; region = c.args.region }) c.in-Section.is c.in_ok-push-in-Section.ensures.items refl

pub returns-in_ok-push-in-Section-clause-chained : goal.returns-in_ok-push-in-Section-clause-chained
returns-in_ok-push-in-Section-clause-chained g c chained within =
    put_in_section c.args.self.now _ c.args.region c.in-Section.number _ refl c.in-Section.is c.in_ok-push-in-Section.ensures.items refl refl refl chained within

pub returns-in_ok-push-in-Lost-clause-taken : goal.returns-in_ok-push-in-Lost-clause-taken
returns-in_ok-push-in-Lost-clause-taken g c =
    put_kept c.args.self.now.heading c.args.self.now.map (record { lines = c.push-in-Lost.new.self; off = c.args.self.now.map.off })
    (record { section = None; top = c.args.self.now.top; region = c.args.region }) c.in-Lost.is c.in_ok-push-in-Lost.ensures.items refl

pub returns-in_ok-push-in-Lost-clause-chained : goal.returns-in_ok-push-in-Lost-clause-chained
returns-in_ok-push-in-Lost-clause-chained g c chained within =
    put_lost c.args.self.now _ c.args.region _ refl c.in-Lost.is c.in_ok-push-in-Lost.ensures.items refl chained within
