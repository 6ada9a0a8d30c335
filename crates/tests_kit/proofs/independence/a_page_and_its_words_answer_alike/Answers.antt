use Rattle.rrs_extra.proofs.OpenPages.{one_open_page}
use Rattle.tests_kit.proofs.independence.a_page_and_its_words_answer_alike.Goals as goal

pub same_bytes-requires-clause-pages : goal.same_bytes-requires-clause-pages
same_bytes-requires-clause-pages g c =
    one_open_page c.in_ok-pages.pages _ _ 1024 c.in_ok-pages.ensures c.in_ok-unmarked.ensures.items
