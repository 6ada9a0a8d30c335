use Rattle.std.proofs.Common.{◌≡◌, ◌∙◌, ap, arith}
use Rattle.rrs_elf.specs.Numbers.{word}
use Rattle.rrs_elf.specs.SymbolTables.{sh_offset, sh_size, sh_link, st_name}
use Rattle.rrs_elf.proofs.SymbolsAccepted.{symbols_hold}
use Rattle.rrs_elf.proofs.symbol_table.Symbols.place_of_name.Goals as goal

pub returns-clause-start : goal.returns-clause-start
returns-clause-start c =
    let file = c.args.self.now.file.now in
    let t = c.args.self.now.table in
    let n = c.args.index in
    let same_name : c.read_word.result ≡ st_name file t n = c.read_word.ensures ∙ ap (word file) c.start_of_symbol-start.ensures.value in
    let table = c.read_section-symbols.ensures.link_is ∙ (ap (sh_link file) c.from.ensures) in
    let offset : c.read_section-strings.result.offset ≡ sh_offset file (sh_link file t) = c.read_section-strings.ensures.offset_is ∙ ap (sh_offset file) table in
    omega arith

pub returns-clause-end : goal.returns-clause-end
returns-clause-end c =
    let file = c.args.self.now.file.now in
    let t = c.args.self.now.table in
    let table = c.read_section-symbols.ensures.link_is ∙ (ap (sh_link file) c.from.ensures) in
    let offset : c.read_section-strings.result.offset ≡ sh_offset file (sh_link file t) = c.read_section-strings.ensures.offset_is ∙ ap (sh_offset file) table in
    let size : c.read_section-strings.result.size ≡ sh_size file (sh_link file t) = c.read_section-strings.ensures.size_is ∙ ap (sh_size file) table in
    let end = c.end_of.ensures in
    omega arith

pub returns-clause-ordered : goal.returns-clause-ordered
returns-clause-ordered c =
    let file = c.args.self.now.file.now in
    let t = c.args.self.now.table in
    let n = c.args.index in
    let hold = symbols_hold file t c.args.self.now.accepted in
    let some = hold.names n c.requires in
    let same_name : c.read_word.result ≡ st_name file t n = c.read_word.ensures ∙ ap (word file) c.start_of_symbol-start.ensures.value in
    let table = c.read_section-symbols.ensures.link_is ∙ (ap (sh_link file) c.from.ensures) in
    let offset : c.read_section-strings.result.offset ≡ sh_offset file (sh_link file t) = c.read_section-strings.ensures.offset_is ∙ ap (sh_offset file) table in
    let size : c.read_section-strings.result.size ≡ sh_size file (sh_link file t) = c.read_section-strings.ensures.size_is ∙ ap (sh_size file) table in
    let end = c.end_of.ensures in
    omega arith

pub returns-clause-within : goal.returns-clause-within
returns-clause-within c =
    let file = c.args.self.now.file.now in
    let t = c.args.self.now.table in
    let hold = symbols_hold file t c.args.self.now.accepted in
    let within = hold.strings_within in
    let table = c.read_section-symbols.ensures.link_is ∙ (ap (sh_link file) c.from.ensures) in
    let offset : c.read_section-strings.result.offset ≡ sh_offset file (sh_link file t) = c.read_section-strings.ensures.offset_is ∙ ap (sh_offset file) table in
    let size : c.read_section-strings.result.size ≡ sh_size file (sh_link file t) = c.read_section-strings.ensures.size_is ∙ ap (sh_size file) table in
    let end = c.end_of.ensures in
    omega arith
