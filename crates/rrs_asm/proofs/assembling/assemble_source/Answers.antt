use Rattle.rrs_asm.proofs.Made.{if-ok, assembled}
use Rattle.rrs_asm.specs.declared.program.Program.{Program}
use Rattle.rrs_asm.specs.Source.{items_of}
use Rattle.rrs_asm.proofs.assembling.assemble_source.Goals as goal

pub returns-clause-items : goal.returns-clause-items
returns-clause-items g c = if-ok _ _ _ c.outcome.ensures
    (λ (p : Program _) said. (assembled c.args.layout (items_of c.args.source.now) c.read_all.new.reading p.sections.items c.read_all.ensures said).sections_of.made)

pub returns-clause-laid_out : goal.returns-clause-laid_out
returns-clause-laid_out g c = if-ok _ _ _ c.outcome.ensures
    (λ (p : Program _) said. (assembled c.args.layout (items_of c.args.source.now) c.read_all.new.reading p.sections.items c.read_all.ensures said).laid_out)

pub returns-clause-all_found : goal.returns-clause-all_found
returns-clause-all_found g c = if-ok _ _ _ c.outcome.ensures
    (λ (p : Program _) said. (assembled c.args.layout (items_of c.args.source.now) c.read_all.new.reading p.sections.items c.read_all.ensures said).sections_of.all_found)

pub returns-clause-kinds : goal.returns-clause-kinds
returns-clause-kinds g c = if-ok _ _ _ c.outcome.ensures
    (λ (p : Program _) said. (assembled c.args.layout (items_of c.args.source.now) c.read_all.new.reading p.sections.items c.read_all.ensures said).sections_of.kinds)

pub returns-clause-placed : goal.returns-clause-placed
returns-clause-placed g c = if-ok _ _ _ c.outcome.ensures
    (λ (p : Program _) said. (assembled c.args.layout (items_of c.args.source.now) c.read_all.new.reading p.sections.items c.read_all.ensures said).sections_of.placed)
