-- `trie::walks::walk_by` meets its contract.
use Rattle.trie.proofs.WalkCases.{descent-begin, descent-whole, descent-last, descent-damaged, descent-found, root-damaged, root-judged, root-other, root-walked}
use Rattle.trie.specs.Siblings.{trie_in}
use Rattle.space.specs.Layout.{sizes}
use Rattle.std.proofs.Common.{◌∙◌, rules}
use Rattle.trie.proofs.walks.walk_by.Goals as goal

pub returns-in_default : goal.returns-in_default
returns-in_default g c find a = root-damaged find (trie_in sizes c.args.space.now c.args.nodes c.args.links) _ _ c.in_default.ensures

pub returns-then-y-root : goal.returns-then-y-root
returns-then-y-root g c find a = root-other find (trie_in sizes c.args.space.now c.args.nodes c.args.links) _ _ c.in-Some.y c.in-Some.ensures (search rules)

pub loop-i-init : goal.loop-i-init
loop-i-init g c = record {
  within = search rules;
  judged = root-judged (trie_in sizes c.args.space.now c.args.nodes c.args.links) _ c.in-Some.y c.in-Some.ensures;
  descends = λ find a. descent-begin find (trie_in sizes c.args.space.now c.args.nodes c.args.links) _ _;
}

pub returns-in-Last : goal.returns-in-Last
returns-in-Last g c find a =
    descent-last (c.loop-i.invariant.descends find a) (search rules) c.in-Last.last (a _ _ _ c.loop-i.invariant.within c.loop-i.invariant.judged (c.type_inv.tokens _).fits (c.in-Last.ensures))
    ∙ root-walked find (trie_in sizes c.args.space.now c.args.nodes c.args.links) _ _ c.in-Some.y c.in-Some.ensures (search rules)

pub returns-in-Damaged : goal.returns-in-Damaged
returns-in-Damaged g c find a =
    descent-damaged (c.loop-i.invariant.descends find a) (search rules) (a _ _ _ c.loop-i.invariant.within c.loop-i.invariant.judged (c.type_inv.tokens _).fits (c.in-Damaged.ensures))
    ∙ root-walked find (trie_in sizes c.args.space.now c.args.nodes c.args.links) _ _ c.in-Some.y c.in-Some.ensures (search rules)

pub loop-i-preserved : goal.loop-i-preserved
loop-i-preserved g c = record {
  within = c.requires.searches.within _ _ _ c.loop-i.invariant.within c.loop-i.invariant.judged (c.type_inv.tokens _).fits (c.in-Found.ensures);
  judged = c.requires.searches.judged _ _ _ c.loop-i.invariant.within c.loop-i.invariant.judged (c.type_inv.tokens _).fits (c.in-Found.ensures);
  descends = λ find a. descent-found (c.loop-i.invariant.descends find a) (search rules) c.in-Found.child (a _ _ _ c.loop-i.invariant.within c.loop-i.invariant.judged (c.type_inv.tokens _).fits (c.in-Found.ensures));
}

pub returns : goal.returns
returns g c find a =
    descent-whole (c.loop-i.invariant.descends find a) (search rules)
    ∙ root-walked find (trie_in sizes c.args.space.now c.args.nodes c.args.links) _ _ c.in-Some.y c.in-Some.ensures (search rules)
