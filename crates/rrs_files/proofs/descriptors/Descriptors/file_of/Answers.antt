use Rattle.rrs_files.specs.declared.descriptors.Target.TheVariants.{File}
use Rattle.rrs_files.proofs.descriptors.Descriptors.file_of.Goals as goal

pub returns-in-None : goal.returns-in-None
returns-in-None c = λ at. c.in-None.ensures (File at)
