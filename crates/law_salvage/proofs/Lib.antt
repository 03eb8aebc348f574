mod Goods
