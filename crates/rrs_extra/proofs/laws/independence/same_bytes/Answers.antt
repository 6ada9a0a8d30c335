-- The words of the pages, one after another.
use Rattle.std.proofs.Common.{sym, ap, ◌∙◌}
use Rattle.rrs_lib.specs.VecBytes.{bytes_of_words, lies_in_words}
use Rattle.rrs_extra.proofs.OpenPages.{same_pages_bytes, same_pages_writable}
use Rattle.rrs_extra.proofs.laws.independence.same_bytes.Goals as goal

pub returns-clause-bytes : goal.returns-clause-bytes
returns-clause-bytes c =
    same_pages_bytes c.args.pages.now c.args.k c.page_count.ensures.pages c.requires.pages ∙ sym (ap bytes_of_words c.requires.words)

pub returns-clause-writable : goal.returns-clause-writable
returns-clause-writable c =
    same_pages_writable c.args.pages.now c.args.k c.page_count.ensures.pages c.requires.pages ∙ sym (ap lies_in_words c.requires.words)
