-- What a file is that is refused, or what is to be done about it, by the refusal and by the number
-- of its machine (System V generic ABI, "ELF Header": e_machine is the half-word at 18, in a file of
-- 64 bits too).
use Rattle.std.specs.Prelude.{ℕ, ◌≤◌, ◌==◌, if◌then◌else◌, List, length}
use Rattle.rrs_elf.specs.Headers.{e_machine}
use Rattle.rrs_elf.specs.declared.errors.ElfError.TheVariants as Elf
use Rattle.rrs_exec.specs.declared.image.ImageError.{ImageError}
use Rattle.rrs_exec.specs.declared.image.ImageError.TheVariants as Image
use Rattle.rrs_run_commands.specs.declared.refusal.Advice.{Advice}

abbrev pub HasMachine : List ℕ → Type 0
HasMachine file = 20 ≤ length file

abbrev pub advice : List ℕ → ImageError → Advice
advice file (Image.Elf (Elf.Class class)) = Advice.Machine (e_machine file)
advice file (Image.Elf (Elf.Machine machine)) = Advice.Machine (e_machine file)
advice file (Image.Elf Elf.CompressedCode) = Advice.Compile
advice file (Image.Elf Elf.FloatingPoint) = Advice.Compile
advice file (Image.Elf Elf.Embedded) = Advice.Compile
advice file (Image.Elf (Elf.NotExecutable kind)) = if kind == 1 then Advice.Link else Advice.Nothing
advice file (Image.Elf Elf.PositionIndependent) = Advice.LinkFixed
advice file (Image.Elf (Elf.Interpreter segment)) = Advice.LinkFixed
advice file _ = Advice.Nothing
