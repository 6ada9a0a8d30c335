-- The pages of a PagedMemory as contracts see them.
use Rattle.std.specs.Prelude.{ℕ}
use Rattle.rrs_extra.specs.declared.paged.PageContents.{PageContents}
use Rattle.rrs_extra.specs.Pages.{Contents, contents, Page}

-- what a page of the code holds, and an entry of the code's map, as a contract sees them
abbrev pub contents_of : PageContents → Contents
contents_of c = contents c.words.mem.items c.read_only.items

abbrev pub page_of : ℕ × PageContents → Page
page_of e = (e.0, contents_of e.1)
